-- "A name is two words, start and length in the text"; "names are equal when their bytes are". Definitions only.
use Rattle.std.specs.Prelude.{Bool, true, false, ◌&&◌, cond, List, [], ◌∷◌, ℕ, ◌+◌, eqb, leb, length, take, drop}
use Rattle.model.specs.Records.{Span}

-- are two lists of bytes equal?
abbrev pub equal_bytes : List ℕ → List ℕ → Bool
equal_bytes [] [] = true
equal_bytes [] (y ∷ ys) = false
equal_bytes (x ∷ xs) [] = false
equal_bytes (x ∷ xs) (y ∷ ys) = eqb x y && equal_bytes xs ys

-- a name's bytes
unfoldable pub bytes_of : List ℕ → Span → List ℕ
bytes_of text n = take n.size (drop n.start text)

-- are two names equal?
unfoldable pub same_in : List ℕ → Span → Span → Bool
same_in text a b = equal_bytes (bytes_of text a) (bytes_of text b)

-- does a name lie in the text?
unfoldable pub placed : List ℕ → Span → Bool
placed text n = leb (n.start + n.size) (length text)

-- "a name's bytes are handed back as a part of the text (empty for an absent or misplaced name)". The absent
-- name, 4,294,967,295 and 0, lies in no text within the limit.
unfoldable pub name_bytes : List ℕ → Span → List ℕ
name_bytes text n = cond (placed text n) (bytes_of text n) []
