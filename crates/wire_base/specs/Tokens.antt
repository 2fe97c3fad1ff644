-- Reading tokens from left to right, up to the first that breaks a rule.
use Rattle.std.specs.Prelude.{◌≡◌, ℕ, ◌+◌, List, [], ◌∷◌, length, take, drop, ℤ, pos, negsuc, Bool, true, false, nat_lt, ◌==◌, if◌then◌else◌, Option, Some, None, Result, Ok, Err}
use Rattle.std.specs.Int.{Width, byte_len, from_be_bytes}
use Rattle.wire_base.specs.declared.limits.TheConstants.{COUNT_LIMIT}
use Rattle.wire_base.specs.Head.{Kind, whole_head, unsigned, signed, str, bin, array, kind_of, head_of}
use Rattle.wire_base.specs.declared.token.TokenHead.{TokenHead}
use Rattle.wire_base.specs.declared.token.TokenHead.TheVariants as token
use Rattle.wire_base.specs.declared.token.HeadStep.{HeadStep}
use Rattle.wire_base.specs.declared.token.HeadStep.TheVariants as step
use Rattle.wire_base.specs.declared.reason.Reason.{Reason}
use Rattle.wire_base.specs.declared.reading.Fault.{Fault}
use Rattle.wire_base.specs.declared.reading.Fault.TheVariants.{Ends, Breaks}
use Rattle.wire_base.specs.declared.reading.DecodeError.{DecodeError}
use Rattle.wire_base.specs.declared.reading.DecodeError.TheVariants as errors

-- what is read at the front, and the bytes after it
abbrev pub Reading : Type 0 → Type 0
Reading A = Result (A × List ℕ) Fault

abbrev pub Reader : Type 0 → Type 0
Reader A = List ℕ → Reading A

abbrev pub follow : {A B : Type 0} → Reading A → (A → Reader B) → Reading B
follow (Ok x) next = next x.0 x.1
follow (Err fault) next = Err fault

infixl 10 ◌>>=◌
-- one thing, and what comes after it
abbrev pub ◌>>=◌ : {A B : Type 0} → Reader A → (A → Reader B) → Reader B
read >>= next = λ bytes. follow (read bytes) next

-- a value, without reading
abbrev pub done : {A : Type 0} → A → Reader A
done x rest = Ok (x, rest)

-- what a function of the code returned, seen by view, is what is read, unless memory ran out
abbrev pub Fails : {Y : Type 0} → DecodeError → Result Y Fault → Type 0
Fails errors.Memory read = Unit {0}
Fails (errors.Fault fault) read = read ≡ Err fault

abbrev pub Gives : {X Y : Type 0} → (X → Y) → Result X DecodeError → Result Y Fault → Type 0
Gives view (Ok x) read = read ≡ Ok (view x)
Gives view (Err e) read = Fails e read

-- what a function of the code that takes no memory returned, seen by view, is what is read
abbrev pub Says : {X Y : Type 0} → (X → Y) → Result X Fault → Result Y Fault → Type 0
Says view (Ok x) read = read ≡ Ok (view x)
Says view (Err fault) read = read ≡ Err fault

-- a sort of tokens: whether a token of this kind is one, and what the head of one says
pub record Sort (A : Type 0) : Type 0 where
  pub begins : Kind → Bool
  pub says : TokenHead → Option A

abbrev pub is_number : Kind → Bool
is_number (whole_head (token.Whole z)) = true
is_number (unsigned w) = true
is_number (signed w) = true
is_number k = false

abbrev pub is_str : Kind → Bool
is_str (whole_head (token.Str n)) = true
is_str (str w) = true
is_str k = false

abbrev pub is_bin : Kind → Bool
is_bin (whole_head (token.Bin n)) = true
is_bin (bin w) = true
is_bin k = false

abbrev pub is_array : Kind → Bool
is_array (whole_head (token.Array n)) = true
is_array (array w) = true
is_array k = false

abbrev pub number_in : TokenHead → Option ℤ
number_in (token.Whole z) = Some z
number_in h = None

abbrev pub str_in : TokenHead → Option ℕ
str_in (token.Str n) = Some n
str_in h = None

abbrev pub bin_in : TokenHead → Option ℕ
bin_in (token.Bin n) = Some n
bin_in h = None

abbrev pub array_in : TokenHead → Option ℕ
array_in (token.Array n) = Some n
array_in h = None

abbrev pub a_number : Sort ℤ
a_number = record { begins = is_number; says = number_in }

abbrev pub a_str : Sort ℕ
a_str = record { begins = is_str; says = str_in }

abbrev pub a_bin : Sort ℕ
a_bin = record { begins = is_bin; says = bin_in }

abbrev pub an_array : Sort ℕ
an_array = record { begins = is_array; says = array_in }

-- a head that isn't whole: its first byte, where that is in, tells its sort
abbrev pub unfinished : {A B : Type 0} → Sort A → Reason → Reader B
unfinished sort reason [] = Err Ends
unfinished sort reason (b ∷ rest) = if sort.begins (kind_of b) then Err Ends else Err (Breaks (length (b ∷ rest)) reason)

-- what a token says, where it says something that is allowed
abbrev pub allowed : {A : Type 0} → ℕ → Reason → Option A → Reader A
allowed left reason None rest = Err (Breaks left reason)
allowed left reason (Some x) rest = Ok (x, rest)

abbrev pub headed : {A : Type 0} → Sort A → Reason → HeadStep → Reader A
headed sort reason step.Short bytes = unfinished sort reason bytes
headed sort reason (step.Refused r) bytes = Err (Breaks (length bytes) r)
headed sort reason (step.Got h n) bytes = allowed (length bytes) reason (sort.says h) (drop n bytes)

-- the head of a token of this sort, or this reason
unfoldable pub head_at : {A : Type 0} → Sort A → Reason → Reader A
head_at sort reason bytes = headed sort reason (head_of bytes) bytes

-- a token of this sort that says something allowed, or this reason
unfoldable pub token_at : {A B : Type 0} → Sort A → (A → Option B) → Reason → Reader B
token_at sort make reason bytes = follow (head_at sort reason bytes) (λ x. allowed (length bytes) reason (make x))

-- inside a payload a token that runs past its end breaks a rule
abbrev pub inside : {A : Type 0} → ℕ → Reason → Reading A → Reading A
inside left reason (Ok x) = Ok x
inside left reason (Err Ends) = Err (Breaks left reason)
inside left reason (Err (Breaks l r)) = Err (Breaks l r)

unfoldable pub inner_at : {A B : Type 0} → Sort A → (A → Option B) → Reason → Reader B
inner_at sort make reason bytes = inside (length bytes) reason (token_at sort make reason bytes)

-- ---- what a token says that is allowed

-- a window or a count: 0 to 2^63 - 1
abbrev pub count_in : ℤ → Option ℕ
count_in (pos n) = if nat_lt n COUNT_LIMIT then Some n else None
count_in (negsuc k) = None

-- whether an array has its last element, which may be left out: least is the number of the others
abbrev pub last_in : (least : ℕ) → ℕ → Option Bool
last_in least n = if n == least then Some false else if n == least + 1 then Some true else None

-- this number alone
abbrev pub only : ℕ → ℕ → Option ℕ
only wanted n = if n == wanted then Some n else None

-- ---- fields of a fixed width

-- a big-endian number that says something allowed, or this reason
unfoldable pub field_at : {B : Type 0} → Width → (ℕ → Option B) → Reason → Reader B
field_at w make reason bytes =
    if nat_lt (length bytes) (byte_len w) then Err Ends
    else allowed (length bytes) reason (make (from_be_bytes w (take (byte_len w) bytes))) (drop (byte_len w) bytes)

-- the next n bytes
unfoldable pub bytes_at : ℕ → Reader (List ℕ)
bytes_at n rest = if nat_lt (length rest) n then Err Ends else Ok (take n rest, drop n rest)

-- ---- what stands behind

-- what was read of a payload, behind which these bytes stand
abbrev pub placed : {A : Type 0} → Result A Fault → Reader A
placed (Ok x) rest = Ok (x, rest)
placed (Err Ends) rest = Err Ends
placed (Err (Breaks left reason)) rest = Err (Breaks (left + length rest) reason)
