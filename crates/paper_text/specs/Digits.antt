-- Digits and the numbers that they write.
use Rattle.std.specs.Prelude.{ℕ, ◌+◌, ◌-◌, ◌*◌, ◌^◌, Bool, cond, ◌&&◌, List, [], ◌∷◌, Some, None, Option, nat_le, nat_lt}

-- a byte between two others
abbrev pub between : ℕ → ℕ → ℕ → Bool
between low high b = nat_le low b && nat_le b high

-- the value of a digit, of ten or more as a letter in either case
abbrev pub digit_value : ℕ → Option ℕ
digit_value b =
    cond (between 48 57 b) (Some (b - 48))
    (cond (between 97 102 b) (Some (b - 87))
    (cond (between 65 70 b) (Some (b - 55)) None))

-- a value that fits 128 bits
abbrev pub fitting : ℕ → Option ℕ
fitting n = cond (nat_lt n (2 ^ 128)) (Some n) None

-- a digit more after a number, if it is below the base and the whole fits
abbrev pub with_digit : ℕ → ℕ → Option ℕ → Option ℕ
with_digit base n None = None
with_digit base n (Some d) = cond (nat_lt d base) (fitting (n * base + d)) None

-- the digits after a number
abbrev pub number_after : ℕ → Option ℕ → List ℕ → Option ℕ
number_after base None bs = None
number_after base (Some n) [] = Some n
number_after base (Some n) (b ∷ bs) = number_after base (with_digit base n (digit_value b)) bs

-- the number that a word of at least one digit writes
abbrev pub number_in : ℕ → List ℕ → Option ℕ
number_in base [] = None
number_in base (b ∷ bs) = number_after base (Some 0) (b ∷ bs)

-- a number below a bound
abbrev pub below : ℕ → Option ℕ → Option ℕ
below bound None = None
below bound (Some n) = cond (nat_lt n bound) (Some n) None

-- a byte of two hex digits
abbrev pub byte_value : Option ℕ → Option ℕ → Option ℕ
byte_value None low = None
byte_value (Some h) None = None
byte_value (Some h) (Some l) = Some (h * 16 + l)
