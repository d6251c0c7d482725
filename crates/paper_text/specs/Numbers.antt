-- Numbers, ids, views and segments, as words write them.
use Rattle.std.specs.Prelude.{ℕ, ◌%◌, ◌^◌, Bool, cond, ◌&&◌, List, [], ◌∷◌, length, ℤ, pos, neg_ℤ, is_some, Some, None, Ok, Err, codes, Option, Result, ◌==◌, nat_le, nat_lt}
use Rattle.std.specs.List.{list_all}
use Rattle.table.specs.Counted.{items_of}
use Rattle.compactions.specs.Trees.{View}
use Rattle.table.specs.declared.rows.Rows.{Rows}
use Rattle.paper_text.specs.Digits.{digit_value, number_in, below, byte_value}
use Rattle.paper_text.specs.Lines.{parts}

-- what follows a beginning
abbrev pub behind : List ℕ → List ℕ → Option (List ℕ)
behind [] w = Some w
behind (p ∷ ps) [] = None
behind (p ∷ ps) (b ∷ bs) = cond (p == b) (behind ps bs) None

abbrev pub u32_of : List ℕ → Option ℕ
u32_of w = below (2 ^ 32) (number_in 10 w)

abbrev pub u64_of : List ℕ → Option ℕ
u64_of w = below (2 ^ 64) (number_in 10 w)

-- a signed number of 64 bits
abbrev pub positive : Option ℕ → Option ℤ
positive None = None
positive (Some n) = cond (nat_lt n (2 ^ 63)) (Some (pos n)) None

-- the same below zero
abbrev pub negative : Option ℕ → Option ℤ
negative None = None
negative (Some n) = cond (nat_le n (2 ^ 63)) (Some (neg_ℤ (pos n))) None

-- a minus may stand before the digits
abbrev pub signed_by : Option (List ℕ) → List ℕ → Option ℤ
signed_by None w = positive (number_in 10 w)
signed_by (Some ds) w = negative (number_in 10 ds)

abbrev pub signed_of : List ℕ → Option ℤ
signed_of w = signed_by (behind (codes "-") w) w

-- an id in decimal, or in up to 32 hex digits after 0x
abbrev pub id_by : Option (List ℕ) → List ℕ → Option ℕ
id_by None w = number_in 10 w
id_by (Some ds) w = cond (nat_le (length ds) 32) (number_in 16 ds) None

abbrev pub id_of : List ℕ → Option ℕ
id_of w = id_by (behind (codes "0x") w) w

-- two ids with = between them
abbrev pub view_by : Option ℕ → Option ℕ → Option View
view_by None sst = None
view_by (Some i) None = None
view_by (Some i) (Some s) = Some (record { id = i; sst = s })

abbrev pub view_at : Option (List ℕ × List ℕ) → Option View
view_at None = None
view_at (Some p) = view_by (id_of p.0) (id_of p.1)

abbrev pub view_in : List ℕ → Option View
view_in w = view_at (parts 61 w)

-- a value; 0 where there is none
abbrev pub value_of : Option ℕ → ℕ
value_of None = 0
value_of (Some d) = d

abbrev pub all_digits : List ℕ → Bool
all_digits bs = list_all (λ b. is_some (digit_value b)) bs

-- a byte for each pair of digits
abbrev pub pairs : List ℕ → List ℕ
pairs [] = []
pairs (h ∷ []) = []
pairs (h ∷ (l ∷ ds)) = value_of (byte_value (digit_value h) (digit_value l)) ∷ pairs ds

-- pairs of hex digits, at least one
abbrev pub hex_bytes : List ℕ → Option (List ℕ)
hex_bytes ds = cond (nat_lt 0 (length ds) && (length ds % 2 == 0 && all_digits ds)) (Some (pairs ds)) None

-- the bytes of a segment's word
abbrev pub segment_by : Option (List ℕ) → List ℕ → Option (List ℕ)
segment_by None w = Some w
segment_by (Some ds) w = hex_bytes ds

-- the bytes of a segment by the words of its line: of one word, or empty without a word
abbrev pub segment_of : List (List ℕ) → Option (List ℕ)
segment_of [] = Some []
segment_of (w ∷ []) = segment_by (behind (codes "hex:") w) w
segment_of (w ∷ (v ∷ ws)) = None

-- at most 16 bytes, or what more are refused with
abbrev pub held : {E : Type 0} → E → List ℕ → Result (List ℕ) E
held over bs = cond (nat_le (length bs) 16) (Ok bs) (Err over)

-- what the code holds of a segment
abbrev pub held_bytes : {E : Type 0} → Result (Rows ℕ 16) E → Result (List ℕ) E
held_bytes (Ok r) = Ok (items_of r)
held_bytes (Err e) = Err e
