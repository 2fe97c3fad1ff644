-- The shortest heads of tokens, of those that the MessagePack specification has in "Formats".
use Rattle.std.specs.Prelude.{ℕ, ◌+◌, List, [], ◌∷◌, ℤ, pos, negsuc, nat_lt, if◌then◌else◌}
use Rattle.std.specs.Int.{w8, w16, w32, w64, cast_unsigned, to_be_bytes}

-- the token of a number that isn't negative, below 2^64
abbrev pub unsigned_text : ℕ → List ℕ
unsigned_text n =
    if nat_lt n 0x80 then n ∷ []
    else if nat_lt n 0x100 then 0xcc ∷ n ∷ []
    else if nat_lt n 0x10000 then 0xcd ∷ to_be_bytes w16 n
    else if nat_lt n 0x100000000 then 0xce ∷ to_be_bytes w32 n
    else 0xcf ∷ to_be_bytes w64 n

-- the token of the negative number -(k + 1), from -2^63, in two's complement
abbrev pub negative_text : ℕ → List ℕ
negative_text k =
    if nat_lt k 0x20 then cast_unsigned w8 (negsuc k) ∷ []
    else if nat_lt k 0x80 then 0xd0 ∷ cast_unsigned w8 (negsuc k) ∷ []
    else if nat_lt k 0x8000 then 0xd1 ∷ to_be_bytes w16 (cast_unsigned w16 (negsuc k))
    else if nat_lt k 0x80000000 then 0xd2 ∷ to_be_bytes w32 (cast_unsigned w32 (negsuc k))
    else 0xd3 ∷ to_be_bytes w64 (cast_unsigned w64 (negsuc k))

-- the token of a whole number from -2^63 to 2^64 - 1
abbrev pub whole_text : ℤ → List ℕ
whole_text (pos n) = unsigned_text n
whole_text (negsuc k) = negative_text k

-- the head of a str of n bytes, n below 2^32
abbrev pub str_head : ℕ → List ℕ
str_head n =
    if nat_lt n 0x20 then (0xa0 + n) ∷ []
    else if nat_lt n 0x100 then 0xd9 ∷ n ∷ []
    else if nat_lt n 0x10000 then 0xda ∷ to_be_bytes w16 n
    else 0xdb ∷ to_be_bytes w32 n

-- the head of a bin of n bytes, n below 2^32
abbrev pub bin_head : ℕ → List ℕ
bin_head n =
    if nat_lt n 0x100 then 0xc4 ∷ n ∷ []
    else if nat_lt n 0x10000 then 0xc5 ∷ to_be_bytes w16 n
    else 0xc6 ∷ to_be_bytes w32 n

-- the head of an array of n elements, n below 2^32
abbrev pub array_head : ℕ → List ℕ
array_head n =
    if nat_lt n 0x10 then (0x90 + n) ∷ []
    else if nat_lt n 0x10000 then 0xdc ∷ to_be_bytes w16 n
    else 0xdd ∷ to_be_bytes w32 n

-- the head of a map of n pairs, n below 2^32
abbrev pub map_head : ℕ → List ℕ
map_head n =
    if nat_lt n 0x10 then (0x80 + n) ∷ []
    else if nat_lt n 0x10000 then 0xde ∷ to_be_bytes w16 n
    else 0xdf ∷ to_be_bytes w32 n
