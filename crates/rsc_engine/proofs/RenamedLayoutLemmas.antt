-- Courses that are alike but for the numbers of their choices go the same ways.
use Rattle.std.proofs.Common.{◌≡◌, ℕ, zero, suc, ◌+◌, ◌<◌, ◌≤◌, ◌⊎◌, inl, inr, ⊎_elim, Bool, List, [], ◌∷◌, ◌++◌, length, get_or, refl, sym, ap, ◌∙◌, subst, arith, length-append}
use Rattle.std.proofs.lemmas.List.{get_or_append_left, get_or-append-add}
use Rattle.std.specs.List.{Contains}
use Rattle.rsc_engine.specs.Patterns.{Subject}
use Rattle.rsc_engine.specs.RenamedLayout.{AreRenamed, IsOneToOne, AreAlike}
use Rattle.rsc_engine.specs.Courses.{Course, Skip, Dead, Byte, Here, After, Choose, Turn, Again, Within, Stand, further, chosen, noted, IsUnmade, Turns, SomeTurns, GoesOnce, Reaches, FirstTurns, IsFirstOnce}
use Rattle.rsc_engine.specs.PreferredWays.{choices}

-- ---- the other way round

abbrev Back : (ℕ → ℕ → Type 0) → ℕ → ℕ → Type 0
Back R v w = R w v

one_back : (R : ℕ → ℕ → Type 0) → IsOneToOne R → IsOneToOne (Back R)
one_back R o = record { to = λ v w a b x y e. o.back w v b a x y e; back = λ v w a b x y e. o.to w v b a x y e }

alike_back : (R : ℕ → ℕ → Type 0) (s t : Stand) → AreAlike R s t → AreAlike (Back R) t s
alike_back R s t a = record { at = sym a.at; records = sym a.records; to = λ v w r c. a.back w v r c; back = λ v w r c. a.to w v r c }

renamed_back : (R : ℕ → ℕ → Type 0) (c e : Course) → AreRenamed R c e → AreRenamed (Back R) e c
renamed_back R Skip e h = subst (λ (z : Course). AreRenamed (Back R) z Skip) (sym h) refl
renamed_back R Dead e h = subst (λ (z : Course). AreRenamed (Back R) z Dead) (sym h) refl
renamed_back R (Byte a b) e h = subst (λ (z : Course). AreRenamed (Back R) z (Byte a b)) (sym h) refl
renamed_back R (Here look) e h = subst (λ (z : Course). AreRenamed (Back R) z (Here look)) (sym h) refl
renamed_back R (After c d) e h =
    subst (λ (z : Course). AreRenamed (Back R) z (After c d)) (sym h.2) (c, d, refl, renamed_back R c h.0 h.3, renamed_back R d h.1 h.4)
renamed_back R (Choose w c d) e h =
    subst (λ (z : Course). AreRenamed (Back R) z (Choose w c d)) (sym h.3) (w, c, d, refl, h.4, renamed_back R c h.1 h.5, renamed_back R d h.2 h.6)
renamed_back R (Turn w greedy c) e h =
    subst (λ (z : Course). AreRenamed (Back R) z (Turn w greedy c)) (sym h.2) (w, c, refl, h.3, renamed_back R c h.1 h.4)
renamed_back R (Again w greedy c) e h =
    subst (λ (z : Course). AreRenamed (Back R) z (Again w greedy c)) (sym h.2) (w, c, refl, h.3, renamed_back R c h.1 h.4)
renamed_back R (Within slot c) e h = subst (λ (z : Course). AreRenamed (Back R) z (Within slot c)) (sym h.1) (c, refl, renamed_back R c h.0 h.2)

-- ---- steps of stands that are alike

none_made : (v : ℕ) → Contains [] v → ⊥
none_made v c = absurd (omega (arith, c.1))

further_alike : (R : ℕ → ℕ → Type 0) (s t : Stand) → AreAlike R s t → AreAlike R (further s) (further t)
further_alike R s t a = record {
  at = ap (λ (i : ℕ). i + 1) a.at;
  records = a.records;
  to = λ v w r c. absurd (none_made v c);
  back = λ v w r c. absurd (none_made w c);
}

-- a number is in front, or among those behind it
pub front : (v a : ℕ) (made : List ℕ) → Contains (v ∷ made) a → (v ≡ a) ⊎ Contains made a
front v a made (zero, l, e) = inl e
front v a made (suc k, l, e) = inr (k, omega (arith, l), e)

pub at_front : (v a : ℕ) (made : List ℕ) → (v ≡ a) ⊎ Contains made a → Contains (v ∷ made) a
at_front v a made (inl e) = (0, omega arith, e)
at_front v a made (inr c) = (suc c.0, omega (arith, c.1), c.2)

chosen_alike : (R : ℕ → ℕ → Type 0) (v w : ℕ) (s t : Stand) → IsOneToOne R → R v w → AreAlike R s t → AreAlike R (chosen v s) (chosen w t)
chosen_alike R v w s t o r a = record {
  at = a.at;
  records = a.records;
  to = λ b c q h. at_front w c t.made
      (⊎_elim (λ (e : v ≡ b). inl (o.to v w b c r q e)) (λ (m : Contains s.made b). inr (a.to b c q m)) (front v b s.made h));
  back = λ b c q h. at_front v b s.made
      (⊎_elim (λ (e : w ≡ c). inl (o.back v w b c r q e)) (λ (m : Contains t.made c). inr (a.back b c q m)) (front w c t.made h));
}

noted_alike : (R : ℕ → ℕ → Type 0) (slot : ℕ) (s t : Stand) → AreAlike R s t → AreAlike R (noted slot s) (noted slot t)
noted_alike R slot s t a = record {
  at = a.at;
  records = ap (λ (i : ℕ). (slot, i) ∷ s.records) a.at ∙ ap (λ (r : List (ℕ × ℕ)). (slot, t.at) ∷ r) a.records;
  to = a.to;
  back = a.back;
}

-- ---- the ways of a course

-- where the other goes
abbrev Image : (ℕ → ℕ → Type 0) → (Stand → Stand → Type 0) → Stand → Stand → Type 0
Image R Goes u t = (v : Stand) × Goes u v × AreAlike R t v

-- what the one does the other does
abbrev AreSame : (ℕ → ℕ → Type 0) → (Stand → Stand → Type 0) → (Stand → Stand → Type 0) → Type 0
AreSame R Goes Other = (s u t : Stand) → AreAlike R s u → Goes s t → Image R Other u t

turns_same : (R : ℕ → ℕ → Type 0) (Goes Other : Stand → Stand → Type 0) (v w n : ℕ) → IsOneToOne R → R v w → AreSame R Goes Other
    → AreSame R (Turns Goes v n) (Turns Other w n)
turns_same R Goes Other v w zero o r same s u t a g =
    (chosen w u, (λ m. g.0 (a.back v w r m), refl), subst (λ (z : Stand). AreAlike R z (chosen w u)) (sym g.1) (chosen_alike R v w s u o r a))
turns_same R Goes Other v w (suc n) o r same s u t a g =
    let k = same (chosen v s) (chosen w u) g.1 (chosen_alike R v w s u o r a) g.2 in
    let l = turns_same R Goes Other v w n o r same g.1 k.0 t k.2 g.3 in
    (l.0, (λ m. g.0 (a.back v w r m), k.0, k.1, l.1), l.2)

some_turns_same : (R : ℕ → ℕ → Type 0) (Goes Other : Stand → Stand → Type 0) (v w : ℕ) → IsOneToOne R → R v w → AreSame R Goes Other
    → AreSame R (SomeTurns Goes v) (SomeTurns Other w)
some_turns_same R Goes Other v w o r same s u t a g =
    let l = turns_same R Goes Other v w g.0 o r same s u t a g.1 in (l.0, (g.0, l.1), l.2)

pub goes_same : (x : Subject) (R : ℕ → ℕ → Type 0) (c e : Course) → IsOneToOne R → AreRenamed R c e → AreSame R (GoesOnce x c) (GoesOnce x e)
goes_same x R Skip e o h s u t a g =
    subst (λ (z : Course). Image R (GoesOnce x z) u t) (sym h) (u, refl, subst (λ (z : Stand). AreAlike R z u) g a)
goes_same x R Dead e o h s u t a g = absurd g
goes_same x R (Byte p q) e o h s u t a g =
    subst (λ (z : Course). Image R (GoesOnce x z) u t) (sym h)
    (further u, (rw (sym a.at) g.0, refl), subst (λ (z : Stand). AreAlike R z (further u)) (sym g.1) (further_alike R s u a))
goes_same x R (Here look) e o h s u t a g =
    subst (λ (z : Course). Image R (GoesOnce x z) u t) (sym h)
    (u, (rw (sym a.at) g.0, refl), subst (λ (z : Stand). AreAlike R z u) g.1 a)
goes_same x R (After c d) e o h s u t a g =
    let k = goes_same x R c h.0 o h.3 s u g.0 a g.1 in
    let l = goes_same x R d h.1 o h.4 g.0 k.0 t k.2 g.2 in
    subst (λ (z : Course). Image R (GoesOnce x z) u t) (sym h.2) (l.0, (k.0, k.1, l.1), l.2)
goes_same x R (Choose w c d) e o h s u t a g =
    let b = chosen_alike R w h.0 s u o h.4 a in
    let new : IsUnmade h.0 u = λ m. g.0 (a.back w h.0 h.4 m) in
    subst (λ (z : Course). Image R (GoesOnce x z) u t) (sym h.3) (⊎_elim
    (λ (y : GoesOnce x c (chosen w s) t). let k = goes_same x R c h.1 o h.5 (chosen w s) (chosen h.0 u) t b y in (k.0, (new, inl k.1), k.2))
    (λ (y : GoesOnce x d (chosen w s) t). let k = goes_same x R d h.2 o h.6 (chosen w s) (chosen h.0 u) t b y in (k.0, (new, inr k.1), k.2))
    g.1)
goes_same x R (Turn w greedy c) e o h s u t a g =
    subst (λ (z : Course). Image R (GoesOnce x z) u t) (sym h.2)
    (some_turns_same R (GoesOnce x c) (GoesOnce x h.1) w h.0 o h.3 (λ l m n b y. goes_same x R c h.1 o h.4 l m n b y) s u t a g)
goes_same x R (Again w greedy c) e o h s u t a g =
    let k = goes_same x R c h.1 o h.4 s u g.0 a g.1 in
    let l = some_turns_same R (GoesOnce x c) (GoesOnce x h.1) w h.0 o h.3 (λ i m n b y. goes_same x R c h.1 o h.4 i m n b y) g.0 k.0 t k.2 g.2 in
    subst (λ (z : Course). Image R (GoesOnce x z) u t) (sym h.2) (l.0, (k.0, k.1, l.1), l.2)
goes_same x R (Within slot c) e o h s u t a g =
    let k = goes_same x R c h.0 o h.2 (noted slot s) (noted slot u) g.0 (noted_alike R slot s u a) g.1 in
    subst (λ (z : Course). Image R (GoesOnce x z) u t) (sym h.1) (
      noted (slot + 1) k.0,
      (k.0, k.1, refl),
      subst (λ (z : Stand). AreAlike R z (noted (slot + 1) k.0)) (sym g.2) (noted_alike R (slot + 1) g.0 k.0 k.2),
    )

-- ---- the first of them

-- what is wanted of the one is wanted of the other
abbrev pub AreWanted : (ℕ → ℕ → Type 0) → (Stand → Type 0) → (Stand → Type 0) → Type 0
AreWanted R Wanted Other = (s u : Stand) → AreAlike R s u → Wanted s → Other u

abbrev pub AreBoth : (ℕ → ℕ → Type 0) → (Stand → Type 0) → (Stand → Type 0) → Type 0
AreBoth R Wanted Other = AreWanted R Wanted Other × AreWanted (Back R) Other Wanted

reaches_wanted : (R : ℕ → ℕ → Type 0) (Wanted Other : Stand → Type 0) (Goes Also : Stand → Stand → Type 0) → AreSame R Goes Also
    → AreWanted R Wanted Other → AreWanted R (Reaches Wanted Goes) (Reaches Other Also)
reaches_wanted R Wanted Other Goes Also same more s u a r = let k = same s u r.0 a r.1 in (k.0, k.1, more r.0 k.0 k.2 r.2)

reaches_both : (R : ℕ → ℕ → Type 0) (Wanted Other : Stand → Type 0) (Goes Also : Stand → Stand → Type 0) → AreSame R Goes Also
    → AreSame (Back R) Also Goes → AreBoth R Wanted Other → AreBoth R (Reaches Wanted Goes) (Reaches Other Also)
reaches_both R Wanted Other Goes Also to back w =
    (reaches_wanted R Wanted Other Goes Also to w.0, reaches_wanted (Back R) Other Wanted Also Goes back w.1)

-- the first way of the one is that of the other
abbrev AreFirst : (ℕ → ℕ → Type 0) → ((Stand → Type 0) → Stand → Stand → Type 0) → ((Stand → Type 0) → Stand → Stand → Type 0)
    → Type 1
AreFirst R First Also = (Wanted Other : Stand → Type 0) → AreBoth R Wanted Other → AreSame R (First Wanted) (Also Other)

turns_first : (R : ℕ → ℕ → Type 0) (First Also : (Stand → Type 0) → Stand → Stand → Type 0)
    (Goes Other : Stand → Stand → Type 0) (v w : ℕ) (greedy : Bool)
    → IsOneToOne R → R v w → AreSame R Goes Other → AreSame (Back R) Other Goes → AreFirst R First Also → (n : ℕ)
    → AreFirst R (λ Such k l. FirstTurns First Goes v greedy n Such k l) (λ Such k l. FirstTurns Also Other w greedy n Such k l)
turns_first R First Also Goes Other v w greedy o r to back first zero Wanted Such both s u t a f =
    let b = chosen_alike R v w s u o r a in
    let here : AreAlike R t (chosen w u) = subst (λ (z : Stand). AreAlike R z (chosen w u)) (sym f.1) b in
    let rounds = reaches_both R Wanted Such (SomeTurns Goes v) (SomeTurns Other w) (some_turns_same R Goes Other v w o r to)
    (some_turns_same (Back R) Other Goes w v (one_back R o) r back) both in
    let more = reaches_both R (Reaches Wanted (SomeTurns Goes v)) (Reaches Such (SomeTurns Other w)) Goes Other to back rounds in (
      chosen w u,
      (
        λ m. f.0 (a.back v w r m),
        refl,
        both.0 t (chosen w u) here f.2,
        λ e y. f.3 e (more.1 (chosen w u) (chosen v s) (alike_back R (chosen v s) (chosen w u) b) y),
      ),
      here,
    )
turns_first R First Also Goes Other v w greedy o r to back first (suc n) Wanted Such both s u t a f =
    let b = chosen_alike R v w s u o r a in
    let rounds = reaches_both R Wanted Such (SomeTurns Goes v) (SomeTurns Other w) (some_turns_same R Goes Other v w o r to)
    (some_turns_same (Back R) Other Goes w v (one_back R o) r back) both in
    let k = first (Reaches Wanted (SomeTurns Goes v)) (Reaches Such (SomeTurns Other w)) rounds (chosen v s) (chosen w u) f.2 b f.3 in
    let l = turns_first R First Also Goes Other v w greedy o r to back first n Wanted Such both f.2 k.0 t k.2 f.4 in (
      l.0,
      (λ m. f.0 (a.back v w r m), λ e y. f.1 e (both.1 (chosen w u) (chosen v s) (alike_back R (chosen v s) (chosen w u) b) y), k.0, k.1, l.1),
      l.2,
    )

pub first_same : (x : Subject) (R : ℕ → ℕ → Type 0) (c e : Course) → IsOneToOne R → AreRenamed R c e
    → AreFirst R (λ Such k l. IsFirstOnce x c Such k l) (λ Such k l. IsFirstOnce x e Such k l)
first_same x R Skip e o h W O both s u t a f =
    let here : AreAlike R t u = subst (λ (z : Stand). AreAlike R z u) f.0 a in
    subst (λ (z : Course). Image R (λ k l. IsFirstOnce x z O k l) u t) (sym h) (u, (refl, both.0 t u here f.1), here)
first_same x R Dead e o h W O both s u t a f = absurd f
first_same x R (Byte p q) e o h W O both s u t a f =
    let k = goes_same x R (Byte p q) (Byte p q) o refl s u t a f.0 in
    subst (λ (z : Course). Image R (λ k l. IsFirstOnce x z O k l) u t) (sym h) (k.0, (k.1, both.0 t k.0 k.2 f.1), k.2)
first_same x R (Here look) e o h W O both s u t a f =
    let k = goes_same x R (Here look) (Here look) o refl s u t a f.0 in
    subst (λ (z : Course). Image R (λ k l. IsFirstOnce x z O k l) u t) (sym h) (k.0, (k.1, both.0 t k.0 k.2 f.1), k.2)
first_same x R (After c d) e o h W O both s u t a f =
    let k = first_same x R c h.0 o h.3 (Reaches W (GoesOnce x d)) (Reaches O (GoesOnce x h.1))
    (reaches_both R W O (GoesOnce x d) (GoesOnce x h.1) (goes_same x R d h.1 o h.4)
    (goes_same x (Back R) h.1 d (one_back R o) (renamed_back R d h.1 h.4)) both) s u f.0 a f.1 in
    let l = first_same x R d h.1 o h.4 W O both f.0 k.0 t k.2 f.2 in
    subst (λ (z : Course). Image R (λ k l. IsFirstOnce x z O k l) u t) (sym h.2) (l.0, (k.0, k.1, l.1), l.2)
first_same x R (Choose w c d) e o h W O both s u t a f =
    let b = chosen_alike R w h.0 s u o h.4 a in
    let new : IsUnmade h.0 u = λ m. f.0 (a.back w h.0 h.4 m) in
    let reach = reaches_both R W O (GoesOnce x c) (GoesOnce x h.1) (goes_same x R c h.1 o h.5)
    (goes_same x (Back R) h.1 c (one_back R o) (renamed_back R c h.1 h.5)) both in
    subst (λ (z : Course). Image R (λ k l. IsFirstOnce x z O k l) u t) (sym h.3) (⊎_elim
    (λ (y : IsFirstOnce x c W (chosen w s) t).
    let k = first_same x R c h.1 o h.5 W O both (chosen w s) (chosen h.0 u) t b y in (k.0, (new, inl k.1), k.2))
    (λ (y : (Reaches W (GoesOnce x c) (chosen w s) → ⊥) × IsFirstOnce x d W (chosen w s) t).
    let k = first_same x R d h.2 o h.6 W O both (chosen w s) (chosen h.0 u) t b y.1 in
    (k.0, (new, inr (λ z. y.0 (reach.1 (chosen h.0 u) (chosen w s) (alike_back R (chosen w s) (chosen h.0 u) b) z), k.1)), k.2))
    f.1)
first_same x R (Turn w greedy c) e o h W O both s u t a f =
    let k = turns_first R (λ Such k l. IsFirstOnce x c Such k l) (λ Such k l. IsFirstOnce x h.1 Such k l) (GoesOnce x c) (GoesOnce x h.1) w h.0 greedy o h.3
    (goes_same x R c h.1 o h.4) (goes_same x (Back R) h.1 c (one_back R o) (renamed_back R c h.1 h.4)) (first_same x R c h.1 o h.4) f.0 W O both s u t a f.1 in
    subst (λ (z : Course). Image R (λ k l. IsFirstOnce x z O k l) u t) (sym h.2) (k.0, (f.0, k.1), k.2)
first_same x R (Again w greedy c) e o h W O both s u t a f =
    let to : AreSame R (GoesOnce x c) (GoesOnce x h.1) = goes_same x R c h.1 o h.4 in
    let back : AreSame (Back R) (GoesOnce x h.1) (GoesOnce x c) = goes_same x (Back R) h.1 c (one_back R o) (renamed_back R c h.1 h.4) in
    let rounds = reaches_both R W O (SomeTurns (GoesOnce x c) w) (SomeTurns (GoesOnce x h.1) h.0)
    (some_turns_same R (GoesOnce x c) (GoesOnce x h.1) w h.0 o h.3 to)
    (some_turns_same (Back R) (GoesOnce x h.1) (GoesOnce x c) h.0 w (one_back R o) h.3 back) both in
    let k = first_same x R c h.1 o h.4 (Reaches W (SomeTurns (GoesOnce x c) w)) (Reaches O (SomeTurns (GoesOnce x h.1) h.0)) rounds s u f.0 a f.1 in
    let l = turns_first R (λ Such k l. IsFirstOnce x c Such k l) (λ Such k l. IsFirstOnce x h.1 Such k l) (GoesOnce x c) (GoesOnce x h.1) w h.0 greedy o h.3
    to back (first_same x R c h.1 o h.4) f.2 W O both f.0 k.0 t k.2 f.3 in
    subst (λ (z : Course). Image R (λ k l. IsFirstOnce x z O k l) u t) (sym h.2) (l.0, (k.0, k.1, f.2, l.1), l.2)
first_same x R (Within slot c) e o h W O both s u t a f =
    let k = first_same x R c h.0 o h.2 (λ l. W (noted (slot + 1) l)) (λ l. O (noted (slot + 1) l)) (
      λ l m b y. both.0 (noted (slot + 1) l) (noted (slot + 1) m) (noted_alike R (slot + 1) l m b) y,
      λ l m b y. both.1 (noted (slot + 1) l) (noted (slot + 1) m) (noted_alike (Back R) (slot + 1) l m b) y,
    )
    (noted slot s) (noted slot u) f.0 (noted_alike R slot s u a) f.1 in
    subst (λ (z : Course). Image R (λ k l. IsFirstOnce x z O k l) u t) (sym h.1) (
      noted (slot + 1) k.0,
      (k.0, k.1, refl),
      subst (λ (z : Stand). AreAlike R z (noted (slot + 1) k.0)) (sym f.2) (noted_alike R (slot + 1) f.0 k.0 k.2),
    )

-- ---- a course itself

abbrev pub IsIn : (ℕ → Type 0) → List ℕ → Type 0
IsIn P numbers = (k d : ℕ) → k < length numbers → P (get_or numbers k d)

in_left : (P : ℕ → Type 0) (xs ys : List ℕ) → IsIn P (xs ++ ys) → IsIn P xs
in_left P xs ys h k d l = subst P (get_or_append_left xs ys d k l) (h k d (omega (arith, l, length-append xs ys)))

in_right : (P : ℕ → Type 0) (xs ys : List ℕ) → IsIn P (xs ++ ys) → IsIn P ys
in_right P xs ys h k d l = subst P (get_or-append-add xs ys k d) (h (length xs + k) d (omega (arith, l, length-append xs ys)))

in_front : (P : ℕ → Type 0) (w : ℕ) (xs : List ℕ) → IsIn P (w ∷ xs) → P w
in_front P w xs h = h 0 0 (omega arith)

in_rest : (P : ℕ → Type 0) (w : ℕ) (xs : List ℕ) → IsIn P (w ∷ xs) → IsIn P xs
in_rest P w xs h k d l = h (suc k) d (omega (arith, l))

abbrev pub IsItself : (ℕ → Type 0) → ℕ → ℕ → Type 0
IsItself P v w = (v ≡ w) × P v

pub one_itself : (P : ℕ → Type 0) → IsOneToOne (IsItself P)
one_itself P = record { to = λ v w a b x y e. sym x.0 ∙ (e ∙ y.0); back = λ v w a b x y e. x.0 ∙ (e ∙ sym y.0) }

pub renamed_itself : (P : ℕ → Type 0) (c : Course) → IsIn P (choices c) → AreRenamed (IsItself P) c c
renamed_itself P Skip h = refl
renamed_itself P Dead h = refl
renamed_itself P (Byte a b) h = refl
renamed_itself P (Here look) h = refl
renamed_itself P (After c d) h =
    (c, d, refl, renamed_itself P c (in_left P (choices c) (choices d) h), renamed_itself P d (in_right P (choices c) (choices d) h))
renamed_itself P (Choose w c d) h =
    let rest = in_rest P w (choices c ++ choices d) h in (
      w,
      c,
      d,
      refl,
      (refl, in_front P w (choices c ++ choices d) h),
      renamed_itself P c (in_left P (choices c) (choices d) rest),
      renamed_itself P d (in_right P (choices c) (choices d) rest),
    )
renamed_itself P (Turn w greedy c) h = (w, c, refl, (refl, in_front P w (choices c) h), renamed_itself P c (in_rest P w (choices c) h))
renamed_itself P (Again w greedy c) h = (w, c, refl, (refl, in_front P w (choices c) h), renamed_itself P c (in_rest P w (choices c) h))
renamed_itself P (Within slot c) h = (c, refl, renamed_itself P c h)

-- a choice that is none of the course's may have been made or not
pub without : (x : Subject) (c : Course) (W : Stand → Type 0) (w most : ℕ) (s t : Stand) → most ≤ w → IsIn (λ v. v < most) (choices c)
    → AreBoth (IsItself (λ v. v < most)) W W → IsFirstOnce x c W (chosen w s) t
    → (u : Stand) × IsFirstOnce x c W s u × AreAlike (IsItself (λ v. v < most)) t u
without x c W w most s t l h both f =
    first_same x (IsItself (λ v. v < most)) c c (one_itself (λ v. v < most)) (renamed_itself (λ v. v < most) c h) W W both (chosen w s) s t (record {
      at = refl;
      records = refl;
      to = λ v b r m. ⊎_elim
          (λ (e : w ≡ v). let below = r.1 in absurd (omega (arith, l, e, below)))
          (λ (m : Contains s.made v). subst (λ (z : ℕ). Contains s.made z) r.0 m)
          (front w v s.made m);
      back = λ v b r m. at_front w v s.made (inr (subst (λ (z : ℕ). Contains s.made z) (sym r.0) m));
    }) f
