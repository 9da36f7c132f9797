-- Paths of states take the courses of parts, and the first path the first way.
use Rattle.std.proofs.Common.{◌≡◌, ℕ, zero, suc, ◌+◌, ◌<◌, ◌≤◌, ◌⊎◌, inl, inr, ⊎_elim, Bool, true, false, true≢false, List, [], ◌∷◌, length, slice_get, refl, sym, ap, ◌∙◌, subst, arith, Option, Some, None}
use Rattle.std.proofs.lemmas.Bool.{cases_eq}
use Rattle.rsc_look.specs.declared.assertion.Look.{Look}
use Rattle.rsc_nfa.specs.declared.state.State.{State}
use Rattle.rsc_nfa.specs.declared.state.State.TheVariants.{ByteRange, Assert, Fork, Capture, Accept}
use Rattle.rsc_engine.specs.Patterns.{Subject}
use Rattle.rsc_engine.specs.LinksLayout.{choice_of}
use Rattle.rsc_engine.proofs.LinksLayoutLemmas.{may_accept}
use Rattle.rsc_engine.specs.Courses.{Course, Skip, Dead, Byte, Here, After, Choose, Turn, Again, Within, Stand, further, chosen, noted, IsUnmade, Turns, SomeTurns, GoesOnce, Reaches}
use Rattle.rsc_engine.specs.PathsLayout.{by_state, PathLeads, IsPath, HasPath, Least, arrive}
use Rattle.rsc_engine.specs.CoursesLayout.{Through, FirstThrough, Follows}
use Rattle.rsc_engine.proofs.CoursesLemmas.{IsMoreAt, new-alike}
use Rattle.rsc_engine.proofs.PatternsLemmas.{none-between}

-- ---- a step of a path

step_within : (o : Option State) (x : Subject) (end f : ℕ) (s : Stand) (g : ℕ) → PathLeads o x end f s g → (by_state o f s).at ≤ end → s.at ≤ end
step_within None x end f s g leads l = absurd leads
step_within (Some (ByteRange a b next)) x end f s g leads l = omega (arith, l)
step_within (Some (Assert look next)) x end f s g leads l = l
step_within (Some (Fork a b)) x end f s g leads l = l
step_within (Some (Capture slot next)) x end f s g leads l = l
step_within (Some (Accept q)) x end f s g leads l = absurd leads

pub path_within : (states : List State) (x : Subject) (end m f : ℕ) (s : Stand) (rest : List ℕ) → IsPath states x end m f s rest → s.at ≤ end
path_within states x end m f s [] w = w.1
path_within states x end m f s (g ∷ rest) w =
    step_within (slice_get states f) x end f s g w.0 (path_within states x end m g (by_state (slice_get states f) f s) rest w.1)

-- the first step, where the state is known
record Onward (states : List State) (x : Subject) (end m f : ℕ) (s : Stand) (state : State) (most : ℕ) (last : ℕ × Stand) : Type 0 where
  to : ℕ
  rest : List ℕ
  leads : PathLeads (Some state) x end f s to
  path : IsPath states x end m to (by_state (Some state) f s) rest
  ends : arrive states to (by_state (Some state) f s) rest ≡ last
  fewer : length rest + 1 ≡ most

onward : (states : List State) (x : Subject) (end m f : ℕ) (s : Stand) (state : State) (rest : List ℕ) → slice_get states f ≡ Some state
    → may_accept (Some state) ≡ false → IsPath states x end m f s rest → Onward states x end m f s state (length rest) (arrive states f s rest)
onward states x end m f s state [] is stays w = absurd (true≢false (sym (ap may_accept w.0) ∙ (ap may_accept is ∙ stays)))
onward states x end m f s state (g ∷ rest) is stays w = record {
  to = g;
  rest = rest;
  leads = subst (λ (o : Option State). PathLeads o x end f s g) is w.0;
  path = subst (λ (o : Option State). IsPath states x end m g (by_state o f s) rest) is w.1;
  ends = ap (λ (o : Option State). arrive states g (by_state o f s) rest) (sym is);
  fewer = omega arith;
}

-- a step before a path
backward : (states : List State) (x : Subject) (end m f : ℕ) (state : State) (s : Stand) (g : ℕ) (rest : List ℕ) → slice_get states f ≡ Some state
    → PathLeads (Some state) x end f s g → IsPath states x end m g (by_state (Some state) f s) rest → IsPath states x end m f s (g ∷ rest)
backward states x end m f state s g rest is leads w = (
  subst (λ (o : Option State). PathLeads o x end f s g) (sym is) leads,
  subst (λ (o : Option State). IsPath states x end m g (by_state o f s) rest) (sym is) w,
)

-- the first step of the first path
record First (states : List State) (x : Subject) (end m f : ℕ) (s : Stand) (state : State) (most : ℕ) (last : ℕ × Stand) : Type 0 where
  to : ℕ
  rest : List ℕ
  leads : PathLeads (Some state) x end f s to
  least : Least states x end m to (by_state (Some state) f s) rest
  ends : arrive states to (by_state (Some state) f s) rest ≡ last
  fewer : length rest + 1 ≡ most

first_step : (states : List State) (x : Subject) (end m f : ℕ) (s : Stand) (state : State) (rest : List ℕ) → slice_get states f ≡ Some state
    → may_accept (Some state) ≡ false → Least states x end m f s rest → First states x end m f s state (length rest) (arrive states f s rest)
first_step states x end m f s state [] is stays l = absurd (true≢false (sym (ap may_accept l.path.0) ∙ (ap may_accept is ∙ stays)))
first_step states x end m f s state (g ∷ rest) is stays l =
    let leads : PathLeads (Some state) x end f s g = subst (λ (o : Option State). PathLeads o x end f s g) is l.path.0 in
    record {
      to = g;
      rest = rest;
      leads = leads;
      least = record {
        path = subst (λ (o : Option State). IsPath states x end m g (by_state o f s) rest) is l.path.1;
        least = λ other w before. l.least (g ∷ other) (backward states x end m f state s g other is leads w) (inr (refl, before));
      };
      ends = ap (λ (o : Option State). arrive states g (by_state o f s) rest) (sym is);
      fewer = omega arith;
    }

-- ---- forks

record Rest (states : List State) (x : Subject) (end m f g : ℕ) (s : Stand) (most : ℕ) (last : ℕ × Stand) : Type 0 where
  rest : List ℕ
  path : IsPath states x end m g (chosen f s) rest
  ends : arrive states g (chosen f s) rest ≡ last
  fewer : length rest + 1 ≡ most

either_way : (states : List State) (x : Subject) (end m f a b : ℕ) (s : Stand) (rest : List ℕ) → slice_get states f ≡ Some (Fork a b)
    → IsPath states x end m f s rest
    → IsUnmade f s × (Rest states x end m f a s (length rest) (arrive states f s rest) ⊎ Rest states x end m f b s (length rest) (arrive states f s rest))
either_way states x end m f a b s rest is w = (
  o.leads.0,
  ⊎_elim (λ (e : o.to ≡ a). inl (there a e)) (λ (e : o.to ≡ b). inr (there b e)) o.leads.1,
)
  where
    o : Onward states x end m f s (Fork a b) (length rest) (arrive states f s rest)
    o = onward states x end m f s (Fork a b) rest is refl w

    there : (g : ℕ) → o.to ≡ g → Rest states x end m f g s (length rest) (arrive states f s rest)
    there g e = record {
      rest = o.rest;
      path = subst (λ (k : ℕ). IsPath states x end m k (chosen f s) o.rest) e o.path;
      ends = ap (λ (k : ℕ). arrive states k (chosen f s) o.rest) (sym e) ∙ o.ends;
      fewer = o.fewer;
    }

-- the rest of the first path, after a fork
pub record Way (states : List State) (x : Subject) (end m f g : ℕ) (s : Stand) (most : ℕ) (last : ℕ × Stand) : Type 0 where
  pub rest : List ℕ
  pub least : Least states x end m g (chosen f s) rest
  pub ends : arrive states g (chosen f s) rest ≡ last
  pub fewer : length rest + 1 ≡ most

pub from_fork : (states : List State) (x : Subject) (end m f a b : ℕ) (s : Stand) (rest : List ℕ) → slice_get states f ≡ Some (Fork a b)
    → Least states x end m f s rest
    → IsUnmade f s × (Way states x end m f a s (length rest) (arrive states f s rest)
    ⊎ ((HasPath states x end m a (chosen f s) → ⊥) × Way states x end m f b s (length rest) (arrive states f s rest)))
from_fork states x end m f a b s [] is l = absurd (true≢false (sym (ap may_accept l.path.0) ∙ ap may_accept is))
from_fork states x end m f a b s (g ∷ rest) is l = (
  leads.0,
  ⊎_elim
      (λ (e : g ≡ a). inl (there a e))
      (λ (apart : (g ≡ a) → ⊥). inr (
        λ w. l.least (a ∷ w.0) (backward states x end m f (Fork a b) s a w.0 is (leads.0, inl refl) w.1) (inl (a, b, is, refl, apart)),
        there b (⊎_elim (λ (e : g ≡ a). absurd (apart e)) (λ (e : g ≡ b). e) leads.1),
      ))
      (cases_eq g a),
)
  where
    leads : IsUnmade f s × ((g ≡ a) ⊎ (g ≡ b))
    leads = subst (λ (o : Option State). PathLeads o x end f s g) is l.path.0

    there : (h : ℕ) → g ≡ h → Way states x end m f h s (suc (length rest)) (arrive states g (by_state (slice_get states f) f s) rest)
    there h e = record {
      rest = rest;
      least = subst (λ (k : ℕ). Least states x end m k (chosen f s) rest) e (record {
        path = subst (λ (o : Option State). IsPath states x end m g (by_state o f s) rest) is l.path.1;
        least = λ other w before. l.least (g ∷ other) (backward states x end m f (Fork a b) s g other is leads w) (inr (refl, before));
      });
      ends = ap (λ (k : ℕ). arrive states k (chosen f s) rest) (sym e)
          ∙ ap (λ (o : Option State). arrive states g (by_state o f s) rest) (sym is);
      fewer = omega arith;
    }

-- a choice leads to the part or to what comes next
choice_way : (states : List State) (x : Subject) (end m f first next : ℕ) (greedy : Bool) (s : Stand) (rest : List ℕ)
    → slice_get states f ≡ Some (choice_of greedy first next) → IsPath states x end m f s rest
    → IsUnmade f s
    × (Rest states x end m f first s (length rest) (arrive states f s rest) ⊎ Rest states x end m f next s (length rest) (arrive states f s rest))
choice_way states x end m f first next true s rest is w = either_way states x end m f first next s rest is w
choice_way states x end m f first next false s rest is w =
    let e = either_way states x end m f next first s rest is w in (
      e.0,
      ⊎_elim
          (λ (v : Rest states x end m f next s (length rest) (arrive states f s rest)). inr v)
          (λ (v : Rest states x end m f first s (length rest) (arrive states f s rest)). inl v) e.1,
    )

choice_back : (states : List State) (x : Subject) (end m f first next : ℕ) (greedy : Bool) (s : Stand) (g : ℕ)
    → slice_get states f ≡ Some (choice_of greedy first next) → IsUnmade f s → (g ≡ first) ⊎ (g ≡ next) → HasPath states x end m g (chosen f s)
    → HasPath states x end m f s
choice_back states x end m f first next true s g is new which w =
    (g ∷ w.0, backward states x end m f (Fork first next) s g w.0 is (new, which) w.1)
choice_back states x end m f first next false s g is new which w = (
  g ∷ w.0,
  backward states x end m f (Fork next first) s g w.0 is
      (new, ⊎_elim (λ (e : g ≡ first). inr e) (λ (e : g ≡ next). inl e) which) w.1,
)

-- ---- courses that lead on by a state

pub Follows-skip : (states : List State) (next : ℕ) → Follows states next next Skip
Follows-skip states next = record {
  through = λ x end m s rest w. record { to = s; rest = rest; goes = refl; path = w; ends = refl; fewer = omega arith };
  back = λ x end m s t g w. subst (λ (k : Stand). HasPath states x end m next k) (sym g) w;
  goes = λ x end m s rest l. record { to = s; rest = rest; first = (refl, (rest, l.path)); least = l; ends = refl; fewer = omega arith };
}

pub Follows-here : (states : List State) (f next : ℕ) (look : Look) → slice_get states f ≡ Some (Assert look next) → Follows states f next (Here look)
Follows-here states f next look is = record {
  through = λ x end m s rest w.
      let o = onward states x end m f s (Assert look next) rest is refl w in
      record {
        to = s;
        rest = o.rest;
        goes = (o.leads.0, refl);
        path = subst (λ (k : ℕ). IsPath states x end m k s o.rest) o.leads.1 o.path;
        ends = ap (λ (k : ℕ). arrive states k s o.rest) (sym o.leads.1) ∙ o.ends;
        fewer = omega (arith, o.fewer);
      };
  back = λ x end m s t g w.
      let here : HasPath states x end m next s = subst (λ (k : Stand). HasPath states x end m next k) (sym g.1) w in
      (next ∷ here.0, backward states x end m f (Assert look next) s next here.0 is (g.0, refl) here.1);
  goes = λ x end m s rest l.
      let o = first_step states x end m f s (Assert look next) rest is refl l in
      let least : Least states x end m next s o.rest = subst (λ (k : ℕ). Least states x end m k s o.rest) o.leads.1 o.least in
      record {
        to = s;
        rest = o.rest;
        first = ((o.leads.0, refl), (o.rest, least.path));
        least = least;
        ends = ap (λ (k : ℕ). arrive states k s o.rest) (sym o.leads.1) ∙ o.ends;
        fewer = omega (arith, o.fewer);
      };
}

pub Follows-byte : (states : List State) (f a b next : ℕ) → slice_get states f ≡ Some (ByteRange a b next) → Follows states f next (Byte a b)
Follows-byte states f a b next is = record {
  through = λ x end m s rest w.
      let o = onward states x end m f s (ByteRange a b next) rest is refl w in
      record {
        to = further s;
        rest = o.rest;
        goes = (o.leads.1, refl);
        path = subst (λ (k : ℕ). IsPath states x end m k (further s) o.rest) o.leads.2 o.path;
        ends = ap (λ (k : ℕ). arrive states k (further s) o.rest) (sym o.leads.2) ∙ o.ends;
        fewer = omega (arith, o.fewer);
      };
  back = λ x end m s t g w.
      let there : HasPath states x end m next (further s) = subst (λ (k : Stand). HasPath states x end m next k) g.1 w in
      let l = path_within states x end m next (further s) there.0 there.1 in
      (next ∷ there.0, backward states x end m f (ByteRange a b next) s next there.0 is (omega (arith, l), g.0, refl) there.1);
  goes = λ x end m s rest l.
      let o = first_step states x end m f s (ByteRange a b next) rest is refl l in
      let least : Least states x end m next (further s) o.rest = subst (λ (k : ℕ). Least states x end m k (further s) o.rest) o.leads.2 o.least in
      record {
        to = further s;
        rest = o.rest;
        first = ((o.leads.1, refl), (o.rest, least.path));
        least = least;
        ends = ap (λ (k : ℕ). arrive states k (further s) o.rest) (sym o.leads.2) ∙ o.ends;
        fewer = omega (arith, o.fewer);
      };
}

-- from a fork to itself no path leads to a match
never_ends : (states : List State) (x : Subject) (end m f : ℕ) (s : Stand) (rest : List ℕ) → slice_get states f ≡ Some (Fork f f)
    → IsPath states x end m f s rest → ⊥
never_ends states x end m f s [] is w = true≢false (sym (ap may_accept w.0) ∙ ap may_accept is)
never_ends states x end m f s (g ∷ rest) is w =
    let leads : IsUnmade f s × ((g ≡ f) ⊎ (g ≡ f)) = subst (λ (o : Option State). PathLeads o x end f s g) is w.0 in
    let same : g ≡ f = ⊎_elim (λ (e : g ≡ f). e) (λ (e : g ≡ f). e) leads.1 in
    never_ends states x end m f (by_state (slice_get states f) f s) rest is
    (subst (λ (k : ℕ). IsPath states x end m k (by_state (slice_get states f) f s) rest) same w.1)

pub Follows-dead : (states : List State) (f next : ℕ) → slice_get states f ≡ Some (Fork f f) → Follows states f next Dead
Follows-dead states f next is = record {
  through = λ x end m s rest w. absurd (never_ends states x end m f s rest is w);
  back = λ x end m s t g w. absurd g;
  goes = λ x end m s rest l. absurd (never_ends states x end m f s rest is l.path);
}

-- nor does one go by a byte of a range whose first byte is above its last
pub Follows-reversed : (states : List State) (f next a b : ℕ) → b < a → Follows states f next Dead → Follows states f next (Byte a b)
Follows-reversed states f next a b less o = record {
  through = λ x end m s rest w. absurd (o.through x end m s rest w).goes;
  back = λ x end m s t g w. absurd (none-between a b (slice_get x.haystack s.at) less g.0);
  goes = λ x end m s rest l. absurd (o.goes x end m s rest l).first;
}

-- ---- courses made of courses

onto : (states : List State) (x : Subject) (end m first next : ℕ) (c : Course) → Follows states first next c
    → IsMoreAt (HasPath states x end m first) (Reaches (HasPath states x end m next) (GoesOnce x c))
onto states x end m first next c o s w = let t = o.through x end m s w.0 w.1 in (t.to, t.goes, (t.rest, t.path))

from : (states : List State) (x : Subject) (end m first next : ℕ) (c : Course) → Follows states first next c
    → IsMoreAt (Reaches (HasPath states x end m next) (GoesOnce x c)) (HasPath states x end m first)
from states x end m first next c o s r = o.back x end m s r.0 r.1 r.2

pub Follows-after : (states : List State) (first middle next : ℕ) (c d : Course) → Follows states first middle c → Follows states middle next d
    → Follows states first next (After c d)
Follows-after states first middle next c d oc od = record {
  through = λ x end m s rest w.
      let g = oc.through x end m s rest w in
      let h = od.through x end m g.to g.rest g.path in
      record {
        to = h.to;
        rest = h.rest;
        goes = (g.to, g.goes, h.goes);
        path = h.path;
        ends = h.ends ∙ g.ends;
        fewer = omega (arith, g.fewer, h.fewer);
      };
  back = λ x end m s t g w. oc.back x end m s g.0 g.1 (od.back x end m g.0 t g.2 w);
  goes = λ x end m s rest l.
      let g = oc.goes x end m s rest l in
      let h = od.goes x end m g.to g.rest g.least in
      record {
        to = h.to;
        rest = h.rest;
        first = (
          g.to,
          new-alike x c (HasPath states x end m middle) (Reaches (HasPath states x end m next) (GoesOnce x d)) s g.to (onto states x end m middle next d od)
              (from states x end m middle next d od) g.first,
          h.first,
        );
        least = h.least;
        ends = h.ends ∙ g.ends;
        fewer = omega (arith, g.fewer, h.fewer);
      };
}

pub Follows-choose : (states : List State) (f one other next : ℕ) (c d : Course) → slice_get states f ≡ Some (Fork one other)
    → Follows states one next c
    → Follows states other next d → Follows states f next (Choose f c d)
Follows-choose states f one other next c d is oc od = record {
  through = λ x end m s rest w.
      let e = either_way states x end m f one other s rest is w in
      ⊎_elim
      (λ (v : Rest states x end m f one s (length rest) (arrive states f s rest)).
      let g = oc.through x end m (chosen f s) v.rest v.path in
      record { to = g.to; rest = g.rest; goes = (e.0, inl g.goes); path = g.path; ends = g.ends ∙ v.ends; fewer = omega (arith, g.fewer, v.fewer) })
      (λ (v : Rest states x end m f other s (length rest) (arrive states f s rest)).
      let g = od.through x end m (chosen f s) v.rest v.path in
      record { to = g.to; rest = g.rest; goes = (e.0, inr g.goes); path = g.path; ends = g.ends ∙ v.ends; fewer = omega (arith, g.fewer, v.fewer) })
      e.1;
  back = λ x end m s t g w. ⊎_elim
      (λ (h : GoesOnce x c (chosen f s) t).
      choice_back states x end m f one other true s one is g.0 (inl refl) (oc.back x end m (chosen f s) t h w))
      (λ (h : GoesOnce x d (chosen f s) t).
      choice_back states x end m f one other true s other is g.0 (inr refl) (od.back x end m (chosen f s) t h w))
      g.1;
  goes = λ x end m s rest l.
      let e = from_fork states x end m f one other s rest is l in
      ⊎_elim
      (λ (v : Way states x end m f one s (length rest) (arrive states f s rest)).
      let g = oc.goes x end m (chosen f s) v.rest v.least in
      record { to = g.to; rest = g.rest; first = (e.0, inl g.first); least = g.least; ends = g.ends ∙ v.ends; fewer = omega (arith, g.fewer, v.fewer) })
      (λ (n : (HasPath states x end m one (chosen f s) → ⊥) × Way states x end m f other s (length rest) (arrive states f s rest)).
      let g = od.goes x end m (chosen f s) n.1.rest n.1.least in
      record {
        to = g.to;
        rest = g.rest;
        first = (e.0, inr (λ r. n.0 (from states x end m one next c oc (chosen f s) r), g.first));
        least = g.least;
        ends = g.ends ∙ n.1.ends;
        fewer = omega (arith, g.fewer, n.1.fewer);
      })
      e.1;
}

-- a course between two records
pub Follows-within : (states : List State) (first body after next slot : ℕ) (c : Course) → slice_get states first ≡ Some (Capture slot body)
    → slice_get states after ≡ Some (Capture (slot + 1) next) → Follows states body after c → Follows states first next (Within slot c)
Follows-within states first body after next slot c begins closes oc = record {
  through = λ x end m s rest w.
      let o = onward states x end m first s (Capture slot body) rest begins refl w in
      let g = oc.through x end m (noted slot s) o.rest (subst (λ (k : ℕ). IsPath states x end m k (noted slot s) o.rest) o.leads o.path) in
      let e = onward states x end m after g.to (Capture (slot + 1) next) g.rest closes refl g.path in
      record {
        to = noted (slot + 1) g.to;
        rest = e.rest;
        goes = (g.to, g.goes, refl);
        path = subst (λ (k : ℕ). IsPath states x end m k (noted (slot + 1) g.to) e.rest) e.leads e.path;
        ends = ap (λ (k : ℕ). arrive states k (noted (slot + 1) g.to) e.rest) (sym e.leads)
            ∙ (e.ends ∙ (g.ends ∙ (ap (λ (k : ℕ). arrive states k (noted slot s) o.rest) (sym o.leads) ∙ o.ends)));
        fewer = omega (arith, o.fewer, g.fewer, e.fewer);
      };
  back = λ x end m s t g w.
      let there = closing x end m g.0 (subst (λ (k : Stand). HasPath states x end m next k) g.2 w) in
      let h = oc.back x end m (noted slot s) g.0 g.1 there in
      (body ∷ h.0, backward states x end m first (Capture slot body) s body h.0 begins refl h.1);
  goes = λ x end m s rest l.
      let o = first_step states x end m first s (Capture slot body) rest begins refl l in
      let g = oc.goes x end m (noted slot s) o.rest (subst (λ (k : ℕ). Least states x end m k (noted slot s) o.rest) o.leads o.least) in
      let e = first_step states x end m after g.to (Capture (slot + 1) next) g.rest closes refl g.least in
      record {
        to = noted (slot + 1) g.to;
        rest = e.rest;
        first = (
          g.to,
          new-alike x c (HasPath states x end m after) (λ l. HasPath states x end m next (noted (slot + 1) l)) (noted slot s) g.to
              (λ k v. let y = onward states x end m after k (Capture (slot + 1) next) v.0 closes refl v.1 in
              (y.rest, subst (λ (j : ℕ). IsPath states x end m j (noted (slot + 1) k) y.rest) y.leads y.path))
              (λ k v. closing x end m k v) g.first,
          refl,
        );
        least = subst (λ (k : ℕ). Least states x end m k (noted (slot + 1) g.to) e.rest) e.leads e.least;
        ends = ap (λ (k : ℕ). arrive states k (noted (slot + 1) g.to) e.rest) (sym e.leads)
            ∙ (e.ends ∙ (g.ends ∙ (ap (λ (k : ℕ). arrive states k (noted slot s) o.rest) (sym o.leads) ∙ o.ends)));
        fewer = omega (arith, o.fewer, g.fewer, e.fewer);
      };
}
  where
    closing : (x : Subject) (end m : ℕ) (k : Stand) → HasPath states x end m next (noted (slot + 1) k) → HasPath states x end m after k
    closing x end m k w = (next ∷ w.0, backward states x end m after (Capture (slot + 1) next) k next w.0 closes refl w.1)

-- ---- loops

turns_through : (states : List State) (x : Subject) (end m f first next fuel : ℕ) (greedy : Bool) (c : Course) (s : Stand) (rest : List ℕ)
    → slice_get states f ≡ Some (choice_of greedy first next) → Follows states first f c → length rest < fuel → IsPath states x end m f s rest
    → Through states x end m next (Turn f greedy c) s (length rest) (arrive states f s rest)
turns_through states x end m f first next zero greedy c s rest is oc l w = absurd (omega (arith, l))
turns_through states x end m f first next (suc fuel) greedy c s rest is oc l w =
    let e = choice_way states x end m f first next greedy s rest is w in
    ⊎_elim
    (λ (v : Rest states x end m f first s (length rest) (arrive states f s rest)).
    let g = oc.through x end m (chosen f s) v.rest v.path in
    let h = turns_through states x end m f first next fuel greedy c g.to g.rest is oc (omega (arith, l, g.fewer, v.fewer)) g.path in
    record {
      to = h.to;
      rest = h.rest;
      goes = (suc h.goes.0, (e.0, g.to, g.goes, h.goes.1));
      path = h.path;
      ends = h.ends ∙ (g.ends ∙ v.ends);
      fewer = omega (arith, g.fewer, h.fewer, v.fewer);
    })
    (λ (v : Rest states x end m f next s (length rest) (arrive states f s rest)).
    record { to = chosen f s; rest = v.rest; goes = (0, (e.0, refl)); path = v.path; ends = v.ends; fewer = omega (arith, v.fewer) })
    e.1

turns_back : (states : List State) (x : Subject) (end m f first next : ℕ) (greedy : Bool) (c : Course) (n : ℕ) (s t : Stand)
    → slice_get states f ≡ Some (choice_of greedy first next) → Follows states first f c → Turns (GoesOnce x c) f n s t
    → HasPath states x end m next t
    → HasPath states x end m f s
turns_back states x end m f first next greedy c zero s t is oc g w =
    choice_back states x end m f first next greedy s next is g.0 (inr refl) (subst (λ (k : Stand). HasPath states x end m next k) g.1 w)
turns_back states x end m f first next greedy c (suc n) s t is oc g w =
    choice_back states x end m f first next greedy s first is g.0 (inl refl)
    (oc.back x end m (chosen f s) g.1 g.2 (turns_back states x end m f first next greedy c n g.1 t is oc g.3 w))

turn_again : (states : List State) (x : Subject) (end m f first next : ℕ) (greedy : Bool) (c : Course) (s : Stand) (most : ℕ) (last : ℕ × Stand)
    → slice_get states f ≡ Some (choice_of greedy first next) → Follows states first f c
    → ((t : Stand) (rest : List ℕ) → length rest < most → Least states x end m f t rest
    → FirstThrough states x end m next (Turn f greedy c) t (length rest) (arrive states f t rest))
    → IsUnmade f s → (greedy ≡ false → HasPath states x end m next (chosen f s) → ⊥) → Way states x end m f first s most last
    → FirstThrough states x end m next (Turn f greedy c) s most last
turn_again states x end m f first next greedy c s most last is oc again new unwanted v =
    let g = oc.goes x end m (chosen f s) v.rest v.least in
    let h = again g.to g.rest (omega (arith, v.fewer, g.fewer)) g.least in
    record {
      to = h.to;
      rest = h.rest;
      first = (
        suc h.first.0,
        (
          new,
          λ e w. unwanted e w,
          g.to,
          new-alike x c (HasPath states x end m f) (Reaches (HasPath states x end m next) (SomeTurns (GoesOnce x c) f)) (chosen f s) g.to
              (λ k w.
              let t = turns_through states x end m f first next (suc (length w.0)) greedy c k w.0 is oc (omega arith) w.1 in (t.to, t.goes, (t.rest, t.path)))
              (λ k r. turns_back states x end m f first next greedy c r.1.0 k r.0 is oc r.1.1 r.2) g.first,
          h.first.1,
        ),
      );
      least = h.least;
      ends = h.ends ∙ (g.ends ∙ v.ends);
      fewer = omega (arith, v.fewer, g.fewer, h.fewer);
    }

turn_over : (states : List State) (x : Subject) (end m f first next : ℕ) (greedy : Bool) (c : Course) (s : Stand) (most : ℕ) (last : ℕ × Stand)
    → slice_get states f ≡ Some (choice_of greedy first next) → Follows states first f c → IsUnmade f s
    → (greedy ≡ true → HasPath states x end m first (chosen f s) → ⊥) → Way states x end m f next s most last
    → FirstThrough states x end m next (Turn f greedy c) s most last
turn_over states x end m f first next greedy c s most last is oc new none v = record {
  to = chosen f s;
  rest = v.rest;
  first = (
    0,
    (
      new,
      refl,
      (v.rest, v.least.path),
      λ e r. none e (oc.back x end m (chosen f s) r.0 r.1 (turns_back states x end m f first next greedy c r.2.1.0 r.0 r.2.0 is oc r.2.1.1 r.2.2)),
    ),
  );
  least = v.least;
  ends = v.ends;
  fewer = omega (arith, v.fewer);
}

turns_goes : (states : List State) (x : Subject) (end m f first next fuel : ℕ) (greedy : Bool) (c : Course) (s : Stand) (rest : List ℕ)
    → slice_get states f ≡ Some (choice_of greedy first next) → Follows states first f c → length rest < fuel → Least states x end m f s rest
    → FirstThrough states x end m next (Turn f greedy c) s (length rest) (arrive states f s rest)
turns_goes states x end m f first next zero greedy c s rest is oc l least = absurd (omega (arith, l))
turns_goes states x end m f first next (suc fuel) true c s rest is oc l least =
    let e = from_fork states x end m f first next s rest is least in
    ⊎_elim
    (λ (v : Way states x end m f first s (length rest) (arrive states f s rest)).
    turn_again states x end m f first next true c s (length rest) (arrive states f s rest) is oc
    (λ t more n k. turns_goes states x end m f first next fuel true c t more is oc (omega (arith, l, n)) k) e.0 (λ q. absurd (true≢false q)) v)
    (λ (n : (HasPath states x end m first (chosen f s) → ⊥) × Way states x end m f next s (length rest) (arrive states f s rest)).
    turn_over states x end m f first next true c s (length rest) (arrive states f s rest) is oc e.0 (λ q. n.0) n.1)
    e.1
turns_goes states x end m f first next (suc fuel) false c s rest is oc l least =
    let e = from_fork states x end m f next first s rest is least in
    ⊎_elim
    (λ (v : Way states x end m f next s (length rest) (arrive states f s rest)).
    turn_over states x end m f first next false c s (length rest) (arrive states f s rest) is oc e.0 (λ q. absurd (true≢false (sym q))) v)
    (λ (n : (HasPath states x end m next (chosen f s) → ⊥) × Way states x end m f first s (length rest) (arrive states f s rest)).
    turn_again states x end m f first next false c s (length rest) (arrive states f s rest) is oc
    (λ t more j k. turns_goes states x end m f first next fuel false c t more is oc (omega (arith, l, j)) k) e.0 (λ q. n.0) n.1)
    e.1

-- a loop that is entered by its turn
pub Follows-turn : (states : List State) (f first next : ℕ) (greedy : Bool) (c : Course) → slice_get states f ≡ Some (choice_of greedy first next)
    → Follows states first f c → Follows states f next (Turn f greedy c)
Follows-turn states f first next greedy c is oc = record {
  through = λ x end m s rest w. turns_through states x end m f first next (suc (length rest)) greedy c s rest is oc (omega arith) w;
  back = λ x end m s t g w. turns_back states x end m f first next greedy c g.0 s t is oc g.1 w;
  goes = λ x end m s rest l. turns_goes states x end m f first next (suc (length rest)) greedy c s rest is oc (omega arith) l;
}

-- a loop that is entered by its first round
pub Follows-again : (states : List State) (f first next : ℕ) (greedy : Bool) (c : Course) → slice_get states f ≡ Some (choice_of greedy first next)
    → Follows states first f c → Follows states first next (Again f greedy c)
Follows-again states f first next greedy c is oc =
    let o = Follows-after states first f next c (Turn f greedy c) oc (Follows-turn states f first next greedy c is oc) in
    record {
      through = λ x end m s rest w.
          let g = o.through x end m s rest w in
          record { to = g.to; rest = g.rest; goes = g.goes; path = g.path; ends = g.ends; fewer = g.fewer };
      back = λ x end m s t g w. o.back x end m s t g w;
      goes = λ x end m s rest l.
          let g = o.goes x end m s rest l in
          record {
            to = g.to;
            rest = g.rest;
            first = (g.first.0, g.first.1, g.first.2.0, g.first.2.1);
            least = g.least;
            ends = g.ends;
            fewer = g.fewer;
          };
    }
