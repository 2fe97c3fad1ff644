-- The heads of tokens, as the MessagePack specification has them in "Formats"; a float, an extension and c1 are refused.
use Rattle.std.specs.Prelude.{◌≡◌, ℕ, ◌+◌, ◌-◌, ◌<◌, ◌≤◌, List, [], ◌∷◌, length, take, pos, negsuc, true, false, nat_lt, ◌==◌, if◌then◌else◌}
use Rattle.std.specs.Int.{Width, w8, w16, w32, w64, byte_len, from_be_bytes, cast_signed}
use Rattle.wire_base.specs.declared.reason.Reason.{Reason}
use Rattle.wire_base.specs.declared.reason.Reason.TheVariants.{Unused, Float, Ext}
use Rattle.wire_base.specs.declared.token.TokenHead.{TokenHead}
use Rattle.wire_base.specs.declared.token.TokenHead.TheVariants.{Nil, Flag, Whole, Str, Bin, Array, Map}
use Rattle.wire_base.specs.declared.token.HeadStep.{HeadStep}
use Rattle.wire_base.specs.declared.token.HeadStep.TheVariants.{Got, Refused, Short}

-- what the first byte says: the head itself, or which number follows it, or a refusal
pub data Kind : Type 0 where
  whole_head : TokenHead → Kind
  unsigned : Width → Kind
  signed : Width → Kind
  str : Width → Kind
  bin : Width → Kind
  array : Width → Kind
  map : Width → Kind
  refused : Reason → Kind

-- the first bytes from c0 to df
unfoldable pub lettered : ℕ → Kind
lettered b =
    if b == 0xc0 then whole_head Nil
    else if b == 0xc1 then refused Unused
    else if b == 0xc2 then whole_head (Flag false)
    else if b == 0xc3 then whole_head (Flag true)
    else if b == 0xc4 then bin w8
    else if b == 0xc5 then bin w16
    else if b == 0xc6 then bin w32
    else if nat_lt b 0xca then refused Ext
    else if nat_lt b 0xcc then refused Float
    else if b == 0xcc then unsigned w8
    else if b == 0xcd then unsigned w16
    else if b == 0xce then unsigned w32
    else if b == 0xcf then unsigned w64
    else if b == 0xd0 then signed w8
    else if b == 0xd1 then signed w16
    else if b == 0xd2 then signed w32
    else if b == 0xd3 then signed w64
    else if nat_lt b 0xd9 then refused Ext
    else if b == 0xd9 then str w8
    else if b == 0xda then str w16
    else if b == 0xdb then str w32
    else if b == 0xdc then array w16
    else if b == 0xdd then array w32
    else if b == 0xde then map w16
    else map w32

-- what each first byte says
abbrev pub kind_of : ℕ → Kind
kind_of b =
    if nat_lt b 0x80 then whole_head (Whole (pos b))
    else if nat_lt b 0x90 then whole_head (Map (b - 0x80))
    else if nat_lt b 0xa0 then whole_head (Array (b - 0x90))
    else if nat_lt b 0xc0 then whole_head (Str (b - 0xa0))
    else if nat_lt b 0xe0 then lettered b
    else whole_head (Whole (negsuc (0xff - b)))

-- a big-endian number at the front, and what is made of it
abbrev pub numbered : Width → (ℕ → TokenHead) → List ℕ → HeadStep
numbered w f bytes = if nat_lt (length bytes) (byte_len w) then Short else Got (f (from_be_bytes w (take (byte_len w) bytes))) (byte_len w + 1)

-- the head that follows a first byte of this kind
abbrev pub read_kind : Kind → List ℕ → HeadStep
read_kind (whole_head h) rest = Got h 1
read_kind (unsigned w) rest = numbered w (λ n. Whole (pos n)) rest
read_kind (signed w) rest = numbered w (λ n. Whole (cast_signed w n)) rest
read_kind (str w) rest = numbered w Str rest
read_kind (bin w) rest = numbered w Bin rest
read_kind (array w) rest = numbered w Array rest
read_kind (map w) rest = numbered w Map rest
read_kind (refused r) rest = Refused r

-- the head at the front of some bytes: itself with its length, its refusal, or that it isn't whole
abbrev pub head_of : List ℕ → HeadStep
head_of [] = Short
head_of (b ∷ rest) = read_kind (kind_of b) rest

-- a head takes a byte at least, and stands within the bytes
abbrev pub IsWithin : HeadStep → List ℕ → Type 0
IsWithin (Got h n) bytes = (0 < n) × (n ≤ length bytes)
IsWithin (Refused r) bytes = Unit {0}
IsWithin Short bytes = Unit {0}

-- the same of what follows the first byte
abbrev pub IsWithinTail : HeadStep → List ℕ → Type 0
IsWithinTail (Got h n) rest = (0 < n) × (n ≤ length rest + 1)
IsWithinTail (Refused r) rest = Unit {0}
IsWithinTail Short rest = Unit {0}

-- these bytes, all of them, are a head that says this
abbrev pub IsHead : TokenHead → List ℕ → Type 0
IsHead h b = head_of b ≡ Got h (length b)
