-- Slices of bytes as lists of numbers below 256.
use Rattle.std.proofs.Common.{ℕ, List, ◌<◌, get_or, All}
use Rattle.std.proofs.lemmas.List.{get_or_default}

-- each byte is below 256
pub bytes_all : (h : List ℕ) → ((i : ℕ) → get_or h i 0 < 256) → All (λ b. b < 256) h
bytes_all h f = λ k d lt. rw (get_or_default h k d 0 lt) (f k)
