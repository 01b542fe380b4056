-- What hexadecimal digits write.
use Rattle.std.specs.Prelude.{ℕ, ◌+◌, ◌-◌, ◌*◌, cond, ◌&&◌, List, [], ◌∷◌, Some, None, Option, nat_le}

-- the value of a digit: `0` to `9` are 0 to 9, `a` to `f` are 10 to 15, and no other byte is a digit
abbrev pub value_of : ℕ → Option ℕ
value_of b = cond (nat_le 48 b && nat_le b 57) (Some (b - 48)) (cond (nat_le 97 b && nat_le b 102) (Some (b - 87)) None)

abbrev pub joined_digits : Option ℕ → Option ℕ → Option ℕ
joined_digits None low = None
joined_digits (Some x) None = None
joined_digits (Some x) (Some y) = Some (16 * x + y)

-- the byte that two digits write, the higher one first
abbrev pub byte_of : ℕ → ℕ → Option ℕ
byte_of high low = joined_digits (value_of high) (value_of low)

abbrev pub in_front : Option ℕ → Option (List ℕ) → Option (List ℕ)
in_front None bytes = None
in_front (Some b) None = None
in_front (Some b) (Some bytes) = Some (b ∷ bytes)

-- the bytes that digits write, two for each; none where a digit is left over or a byte is no digit
abbrev pub bytes_of : List ℕ → Option (List ℕ)
bytes_of [] = Some []
bytes_of (digit ∷ []) = None
bytes_of (high ∷ low ∷ digits) = in_front (byte_of high low) (bytes_of digits)
