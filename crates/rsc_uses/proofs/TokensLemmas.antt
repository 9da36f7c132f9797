-- Tokens that tile a text, one after the other.
use Rattle.std.proofs.Common.{◌≡◌, ℕ, List, [], ◌∷◌, ◌++◌, ◌∙◌, sym, refl}
use Rattle.rsc_uses.specs.declared.tokenizer.Token.{Token}
use Rattle.rsc_uses.specs.Tokens.{IsToken, Tile}

-- a token more
pub tile_more : (text : List ℕ) (from at : ℕ) (tokens : List Token) (token : Token)
    → Tile text from at tokens → token.span.start ≡ at → IsToken text token → Tile text from token.span.end (tokens ++ token ∷ [])
tile_more text from at [] token tile start is = (start ∙ sym tile, is, refl)
tile_more text from at (first ∷ rest) token tile start is = (tile.0, tile.1, tile_more text first.span.end at rest token tile.2 start is)
