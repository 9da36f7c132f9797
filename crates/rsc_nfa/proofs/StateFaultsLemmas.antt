-- What a state without a fault names is there.
use Rattle.std.proofs.Common.{◌≡◌, ℕ, ◌*◌, ◌<◌, Bool, true, false, nat_lt, cond, List, length, refl, subst, arith, slice_get, Option, Some, None}
use Rattle.std.proofs.lemmas.Bool.Decides.{nat_tests}
use Rattle.std.proofs.lemmas.Option.{slice_get_within}
use Rattle.rsc_captures.specs.Groups.{GroupLists, all_group_count}
use Rattle.rsc_nfa.specs.declared.state.State.{State}
use Rattle.rsc_nfa.specs.declared.state.State.TheVariants.{ByteRange, Assert, Fork, Capture, Accept}
use Rattle.rsc_nfa.specs.declared.error.BuildError.{BuildError}
use Rattle.rsc_nfa.specs.StateFaults.{or_else, target_fault, fault_in, AreFaultless, IsStateWithin}

-- where a test decides between no fault and one, and there is none, it passed; or it didn't, where the fault comes first
passed : (x : Bool) (e : BuildError) → cond x None (Some e) ≡ None → x ≡ true
passed true e z = refl
passed false e z = absurd (cc)

not_passed : (x : Bool) (e : BuildError) (o : Option BuildError) → cond x (Some e) o ≡ None → (x ≡ false) × (o ≡ None)
not_passed true e o z = absurd (cc)
not_passed false e o z = (refl, z)

neither : (a b : Option BuildError) → or_else a b ≡ None → (a ≡ None) × (b ≡ None)
neither None b e = (refl, e)
neither (Some x) b e = absurd (cc)

target-known : (n s target : ℕ) → target_fault n s target ≡ None → target < n
target-known n s target q = let e : nat_lt target n ≡ true = passed _ _ q in grind (arith, nat_tests)

-- what a state without a fault names is there
pub fault-none : (groups : GroupLists) (n s : ℕ) (state : State) → fault_in groups n s (Some state) ≡ None → IsStateWithin groups n state
fault-none groups n s (ByteRange a b next) q =
    let both = not_passed _ _ _ q in let e : nat_lt b a ≡ false = both.0 in (grind (arith, nat_tests), target-known n s next both.1)
fault-none groups n s (Assert l next) q = target-known n s next q
fault-none groups n s (Fork a b) q = let both = neither _ _ q in (target-known n s a both.0, target-known n s b both.1)
fault-none groups n s (Capture slot next) q =
    let both = neither _ _ q in let e : nat_lt slot (2 * all_group_count groups) ≡ true = passed _ _ both.1 in
    (target-known n s next both.0, grind (arith, nat_tests))
fault-none groups n s (Accept p) q = let e : nat_lt p (length groups) ≡ true = passed _ _ q in grind (arith, nat_tests)

-- and so in a list of states without a fault
pub faultless-names : (groups : GroupLists) (states : List State) → AreFaultless groups states → (s : ℕ) (state : State)
    → slice_get states s ≡ Some state
    → IsStateWithin groups (length states) state
faultless-names groups states faultless s state is =
    fault-none groups (length states) s state
    (subst (λ (o : Option State). fault_in groups (length states) s o ≡ None) is (faultless s (slice_get_within states s state is)))
