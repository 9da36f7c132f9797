-- Where the states of parts lead that are made of parts.
use Rattle.std.proofs.Common.{◌≡◌, ℕ, ◌+◌, ◌<◌, ◌≤◌, inl, inr, ⊎_elim, List, slice_get, refl, sym, ◌∙◌, subst, arith, Some}
use Rattle.std.proofs.lemmas.Bool.{cases_lt}
use Rattle.rsc_nfa.specs.declared.state.State.{State}
use Rattle.rsc_nfa.specs.declared.state.State.TheVariants.{ByteRange, Assert, Fork, Capture, Accept}
use Rattle.rsc_engine.specs.EnclosesLayout.{IsOnWay, StaysOnWay, Encloses}
use Rattle.rsc_engine.specs.LinksLayout.{IsChoice}

-- ---- one state

StaysOnWay-is : (P Q : ℕ → Type 0) (slot : ℕ) (state : State) → ((s : ℕ) → P s → Q s) → StaysOnWay P slot state → StaysOnWay Q slot state
StaysOnWay-is P Q slot (ByteRange a b next) f x = f next x
StaysOnWay-is P Q slot (Assert l next) f x = f next x
StaysOnWay-is P Q slot (Fork a b) f x = (f a x.0, f b x.1)
StaysOnWay-is P Q slot (Capture c next) f x = (x.0, f next x.1)
StaysOnWay-is P Q slot (Accept p) f x = x

-- what leads on from a part of the way is on the way
on_way : (low high exit least most next s : ℕ) → least ≤ low → high ≤ most → IsOnWay least most next exit → IsOnWay low high exit s
    → IsOnWay least most next s
on_way low high exit least most next s l h e (inl x) = inl (omega (arith, l, x.0), omega (arith, h, x.1))
on_way low high exit least most next s l h e (inr same) = subst (λ (t : ℕ). IsOnWay least most next t) (sym same) e

-- ---- some states after the other

abbrev AreStaying : ℕ → ℕ → ℕ → (ℕ → Type 0) → List State → Type 0
AreStaying slot low high P states = (k : ℕ) (state : State) → low ≤ k → k < high → slice_get states k ≡ Some state → StaysOnWay P slot state

joined : (slot low middle high : ℕ) (P Q R : ℕ → Type 0) (states : List State) → ((s : ℕ) → P s → R s) → ((s : ℕ) → Q s → R s)
    → AreStaying slot low middle P states → AreStaying slot middle high Q states → AreStaying slot low high R states
joined slot low middle high P Q R states f g x y = λ k state l h is. ⊎_elim
    (λ (b : k < middle). StaysOnWay-is P R slot state f (x k state l b is))
    (λ (b : middle ≤ k). StaysOnWay-is Q R slot state g (y k state b h is))
    (cases_lt k middle)

one_state : (slot low high : ℕ) (P : ℕ → Type 0) (states : List State) (state : State) → high ≡ low + 1 → slice_get states low ≡ Some state
    → StaysOnWay P slot state → AreStaying slot low high P states
one_state slot low high P states state one is x = λ k other l h at.
    let same : k ≡ low = omega (arith, l, h, one) in
    let here : slice_get states low ≡ Some other = subst (λ (n : ℕ). slice_get states n ≡ Some other) same at in
    subst (λ (o : State). StaysOnWay P slot o) (same_state other (sym is ∙ here)) x
  where
    same_state : (other : State) → Some state ≡ Some other → state ≡ other
    same_state other e = cc

-- ---- parts

pub Encloses-one : (slot low high id next : ℕ) (states : List State) (state : State) → id ≡ low → high ≡ low + 1
    → slice_get states id ≡ Some state
    → StaysOnWay (λ (s : ℕ). IsOnWay low high next s) slot state → Encloses slot low high id next states
Encloses-one slot low high id next states state same one is x = record {
  begins = inl (omega (arith, same), omega (arith, same, one));
  stays = one_state slot low high (λ (s : ℕ). IsOnWay low high next s) states state one (subst (λ (n : ℕ). slice_get states n ≡ Some state) same is) x;
}

pub Encloses-then : (slot low middle high first between next : ℕ) (states : List State) → low ≤ middle → middle ≤ high
    → Encloses slot low middle between next states → Encloses slot middle high first between states → Encloses slot low high first next states
Encloses-then slot low middle high first between next states l m x y = record {
  begins = later first y.begins;
  stays = joined slot low middle high (λ (s : ℕ). IsOnWay low middle next s) (λ (s : ℕ). IsOnWay middle high between s)
      (λ (s : ℕ). IsOnWay low high next s)
      states earlier later x.stays y.stays;
}
  where
    earlier : (s : ℕ) → IsOnWay low middle next s → IsOnWay low high next s
    earlier s = on_way low middle next low high next s (omega arith) m (inr refl)

    later : (s : ℕ) → IsOnWay middle high between s → IsOnWay low high next s
    later s = on_way middle high between low high next s l (omega arith) (earlier between x.begins)

-- a state above others that leads to them
above : (slot low last high id next : ℕ) (states : List State) (state : State) → low ≤ last → id ≡ last → high ≡ last + 1
    → AreStaying slot low last (λ (s : ℕ). IsOnWay low last next s) states → slice_get states id ≡ Some state
    → StaysOnWay (λ (s : ℕ). IsOnWay low last next s) slot state → Encloses slot low high id next states
above slot low last high id next states state l same one x is y = record {
  begins = inl (omega (arith, l, same), omega (arith, same, one));
  stays = joined slot low last high (λ (s : ℕ). IsOnWay low last next s) (λ (s : ℕ). IsOnWay low last next s) (λ (s : ℕ). IsOnWay low high next s)
      states wider wider x
      (one_state slot last high (λ (s : ℕ). IsOnWay low last next s) states state one (subst (λ (n : ℕ). slice_get states n ≡ Some state) same is) y);
}
  where
    wider : (s : ℕ) → IsOnWay low last next s → IsOnWay low high next s
    wider s = on_way low last next low high next s (omega arith) (omega (arith, one)) (inr refl)

pub Encloses-either : (slot low middle last high one other id next : ℕ) (states : List State) → low ≤ middle → middle ≤ last → id ≡ last
    → high ≡ last + 1
    → Encloses slot low middle other next states → Encloses slot middle last one next states → slice_get states id ≡ Some (Fork one other)
    → Encloses slot low high id next states
Encloses-either slot low middle last high one other id next states l m same more x y is =
    above slot low last high id next states (Fork one other) (omega (arith, l, m)) same more
    (joined slot low middle last (λ (s : ℕ). IsOnWay low middle next s) (λ (s : ℕ). IsOnWay middle last next s) (λ (s : ℕ). IsOnWay low last next s)
    states first second x.stays y.stays)
    is (second one y.begins, first other x.begins)
  where
    first : (s : ℕ) → IsOnWay low middle next s → IsOnWay low last next s
    first s = on_way low middle next low last next s (omega arith) m (inr refl)

    second : (s : ℕ) → IsOnWay middle last next s → IsOnWay low last next s
    second s = on_way middle last next low last next s l (omega arith) (inr refl)

pub Encloses-choice : (slot low last high one id next : ℕ) (states : List State) → low ≤ last → id ≡ last → high ≡ last + 1
    → Encloses slot low last one next states → IsChoice states id one next → Encloses slot low high id next states
Encloses-choice slot low last high one id next states l same more x (inl is) =
    above slot low last high id next states (Fork one next) l same more x.stays is (x.begins, inr refl)
Encloses-choice slot low last high one id next states l same more x (inr is) =
    above slot low last high id next states (Fork next one) l same more x.stays is (inr refl, x.begins)

-- a loop is entered at its fork, and at its part
pub Encloses-loop : (slot low middle last high first again next : ℕ) (states : List State) → again ≡ low → middle ≡ low + 1 → middle ≤ last
    → high ≡ last
    → IsChoice states again first next → Encloses slot middle last first again states
    → Encloses slot low high again next states × Encloses slot low high first next states
Encloses-loop slot low middle last high first again next states same one l end c x =
    (record { begins = here; stays = stays }, record { begins = within first x.begins; stays = stays })
  where
    here : IsOnWay low high next again
    here = inl (omega (arith, same), omega (arith, same, one, l, end))

    within : (s : ℕ) → IsOnWay middle last again s → IsOnWay low high next s
    within s = on_way middle last again low high next s (omega (arith, one)) (omega (arith, end)) here

    fork : IsChoice states again first next → AreStaying slot low middle (λ (s : ℕ). IsOnWay low high next s) states
    fork (inl is) = one_state slot low middle (λ (s : ℕ). IsOnWay low high next s) states (Fork first next) one
        (subst (λ (n : ℕ). slice_get states n ≡ Some (Fork first next)) same is) (within first x.begins, inr refl)
    fork (inr is) = one_state slot low middle (λ (s : ℕ). IsOnWay low high next s) states (Fork next first) one
        (subst (λ (n : ℕ). slice_get states n ≡ Some (Fork next first)) same is) (inr refl, within first x.begins)

    stays : AreStaying slot low high (λ (s : ℕ). IsOnWay low high next s) states
    stays = joined slot low middle high (λ (s : ℕ). IsOnWay low high next s) (λ (s : ℕ). IsOnWay middle last again s)
        (λ (s : ℕ). IsOnWay low high next s)
        states (λ s y. y) within (fork c) (λ k state m h is. x.stays k state m (omega (arith, h, end)) is)
