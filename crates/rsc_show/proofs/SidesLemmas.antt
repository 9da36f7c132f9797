-- Characters that begin before a position and end after it.
use Rattle.std.proofs.Common.{◌≡◌, ◌↔◌, ◌<◌, ◌≤◌, ◌-◌, ℕ, Bool, false, true≢false, List, length, sym, ap, ◌∙◌, arith, IsTrue, nat_lt, slice_range, lt-ltb, ltb-true}
use Rattle.std.specs.Char.{IsScalar, encode_utf8, len_utf8}
use Rattle.std.proofs.lemmas.Str.{length-encode, len_utf8_bounds}
use Rattle.rsc_primitives.specs.Utf8.{BeginsAt, EncodedFrom, Encodes, IsInside}
use Rattle.rsc_primitives.specs.Utf8Laws.{BeginsAt-same, length-slice}
use Rattle.rsc_show.specs.Sides.{ReachesPast}

-- the encodings are those of std
abbrev pub EncodesAsStd : Type 0
EncodesAsStd = (e : List ℕ) (c : ℕ) → Encodes e c ↔ (IsScalar c × (e ≡ encode_utf8 c))

width : EncodesAsStd → (h : List ℕ) (s j c : ℕ) → EncodedFrom h s j c → j - s ≡ len_utf8 c
width law h s j c e = sym (length-slice h s j e.ordered e.within) ∙ ap length ((law (slice_range h s j) c).0 e.encoded).1 ∙ length-encode c

-- by what decoding from s answers
pub reaches_by_width : EncodesAsStd → (h : List ℕ) (s i c : ℕ) → s < i → i ≤ length h → BeginsAt h s c
    → IsTrue (nat_lt (i - s) (len_utf8 c)) ↔ ReachesPast h s i
reaches_by_width law h s i c lt le b =
    let w = width law h s b.0 c b.1 in
    let o = b.1.ordered in (
      λ t. let past = ltb-true (i - s) (len_utf8 c) t in record { to = b.0; char = c; past = omega (arith, w, past, o, lt); encoded = b.1 },
      λ r.
          let same : c ≡ r.char = BeginsAt-same h s c r.char b (r.to, r.encoded) in
          let v : r.to - s ≡ len_utf8 c = width law h s r.to r.char r.encoded ∙ ap len_utf8 (sym same) in
          let p = r.past in
          let q = r.encoded.ordered in
          lt-ltb (i - s) (len_utf8 c) (omega (arith, v, p, q, lt)),
    )

-- where no character begins, none reaches further
pub not_without_character : (h : List ℕ) (s i : ℕ) → ((c : ℕ) → ¬ (BeginsAt h s c)) → ¬ (ReachesPast h s i)
not_without_character h s i none r = none r.char (r.to, r.encoded)

-- if no character that begins in the three bytes before has it inside, none has
pub not_inside : EncodesAsStd → (h : List ℕ) (i : ℕ) → ((s : ℕ) → i - 3 ≤ s → s < i → ¬ (ReachesPast h s i)) → ¬ (IsInside h i)
not_inside law h i none e =
    let w = width law h e.from e.to e.char e.encoded in
    let most = (len_utf8_bounds e.char).1 in
    let a = e.after_first in
    let b = e.before_last in
    none e.from (omega (arith, w, most, a, b)) a (record { to = e.to; char = e.char; past = b; encoded = e.encoded })

-- what a test that failed decides does not hold
pub refuted : (t : Bool) (P : Type 0) → IsTrue t ↔ P → t ≡ false → ¬ P
refuted t P is failed p = true≢false (sym (is.1 p) ∙ failed)
