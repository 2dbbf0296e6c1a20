-- The keys that rows are found by, and the bucket that a key lies in. A bucket is no part of what a call
-- promises. Definitions only.
use Rattle.std.specs.Prelude.{ℕ, ◌+◌, ◌*◌, ◌%◌, List, [], ◌∷◌, Bool, ◌&&◌, get_or, eqb}
use Rattle.model.specs.Records.{JunctionKind, Span}
use Rattle.model.specs.Tables.{kind_of, kind_word}
use Rattle.model.specs.Text.{bytes_of, same_in}
use Rattle.words.specs.Rows.{any, name_at}

-- how many buckets there are
abbrev pub buckets : ℕ
buckets = 16384

-- ---- names: rows of w words with their name at word k
-- the bucket of a name's bytes
unfoldable pub hash_from : ℕ → List ℕ → ℕ
hash_from h [] = h
hash_from h (b ∷ bs) = hash_from ((h * 31 + b) % buckets) bs

unfoldable pub hash_name : List ℕ → Span → ℕ
hash_name text n = hash_from 7 (bytes_of text n)

-- does row q bear name n?
unfoldable pub bears : List ℕ → ℕ → ℕ → List ℕ → Span → ℕ → Bool
bears text w k ws n q = same_in text (name_at w k ws q) n

unfoldable pub name_hash : List ℕ → ℕ → ℕ → List ℕ → ℕ → ℕ
name_hash text w k ws q = hash_name text (name_at w k ws q)

-- does a row before r bear r's name?
unfoldable pub name_before : List ℕ → ℕ → ℕ → List ℕ → ℕ → Bool
name_before text w k ws r = any r (bears text w k ws (name_at w k ws r))

-- ---- lanes by identity
unfoldable pub is_id : List ℕ → ℕ → ℕ → Bool
is_id lanes id q = eqb (get_or lanes (q * 10) 0) id

unfoldable pub id_hash : List ℕ → ℕ → ℕ
id_hash lanes q = get_or lanes (q * 10) 0 % buckets

unfoldable pub id_before : List ℕ → ℕ → Bool
id_before lanes r = any r (is_id lanes (get_or lanes (r * 10) 0))

-- ---- lanes by road, section and number; owner has for each lane its road's row plus 1
unfoldable pub key_hash : ℕ → ℕ → ℕ → ℕ
key_hash road s k = (road * 1009 + s * 61 + k) % buckets

unfoldable pub is_key : (lanes owner : List ℕ) → ℕ → ℕ → ℕ → ℕ → Bool
is_key lanes owner road s k q =
    eqb (get_or owner q 0) road && eqb (get_or lanes (q * 10 + 3) 0) s && eqb (get_or lanes (q * 10 + 4) 0) k

unfoldable pub lane_hash : (lanes owner : List ℕ) → ℕ → ℕ
lane_hash lanes owner q = key_hash (get_or owner q 0) (get_or lanes (q * 10 + 3) 0) (get_or lanes (q * 10 + 4) 0)

unfoldable pub key_before : (lanes owner : List ℕ) → ℕ → Bool
key_before lanes owner r =
    any r (is_key lanes owner (get_or owner r 0) (get_or lanes (r * 10 + 3) 0) (get_or lanes (r * 10 + 4) 0))

-- ---- a junction of a kind and a name
abbrev pub is_kind : (kind of : JunctionKind) → Bool
is_kind kind of = eqb (kind_word of) (kind_word kind)

unfoldable pub is_kind_of : JunctionKind → List ℕ → List ℕ → Span → ℕ → Bool
is_kind_of kind text junctions n q =
    is_kind kind (kind_of (get_or junctions (q * 5 + 2) 0)) && same_in text (name_at 5 0 junctions q) n
