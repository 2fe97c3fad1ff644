-- What a word of a script is read as.
use Rattle.std.specs.Prelude.{ℕ, nat_lt, nat_le, ◌==◌, List, [], ◌∷◌, Bool, true, false, ◌||◌, ◌&&◌, length, slice_index, Option, Some, None, option_and_then, if◌then◌else◌, codes, decimal}
use Rattle.std.specs.List.{slice_split}
use Rattle.std.specs.Result.{result_ok}
use Rattle.std.specs.Str.{bytes_eq}
use Rattle.std.specs.Str.Parse.{digits_value}
use Rattle.hex.specs.Hex.{decode_of}
use Rattle.mux_run.specs.declared.steps.Side.{Side}
use Rattle.mux_run.specs.declared.steps.Side.TheVariants.{A, B}
use Rattle.message_body.specs.declared.encoding.Encoding.{Encoding}
use Rattle.message_body.specs.declared.encoding.Encoding.TheVariants as encoding
use Rattle.message_framing.specs.declared.framing.Framing.{Framing}
use Rattle.message_framing.specs.declared.framing.Framing.TheVariants as framing
use Rattle.rpc_items.specs.Meanings.{zero_digit}
use Rattle.rpc_items.specs.declared.calls.Expect.{Expect}
use Rattle.rpc_items.specs.declared.calls.Expect.TheVariants as expect
use Rattle.text_words.specs.declared.channel_name.ChannelName.{ChannelName}
use Rattle.text_words.specs.Bytes.{space, plus, minus, capital_a, capital_z}
use Rattle.mux_items.specs.Limits.{nonce_size}
use Rattle.text_words.specs.Written.{is_number, hyphen, bytes_word, everything, framing_word, encoding_word, expect_word, owner_word, Signed}

-- what the next part makes of the value, where there is one
infixl 10 ◌>>=◌
abbrev pub ◌>>=◌ : {A B : Type 0} → Option A → (A → Option B) → Option B
o >>= f = option_and_then f o

-- the words of a line: what stands between its spaces
abbrev pub words_of : List ℕ → List (List ℕ)
words_of line = slice_split (λ b. b == space) line

-- the value, if the word is how it is written
abbrev pub if_written : {X : Type 0} → (X → List ℕ) → List ℕ → X → Option X
if_written written word x = if bytes_eq (written x) word then Some x else None

-- the side whose letter the word is
unfoldable pub side_in : List ℕ → Option Side
side_in word = if bytes_eq word (codes "A") then Some A else if bytes_eq word (codes "B") then Some B else None

-- the base of the digits of a number
abbrev pub decimal_base : ℕ
decimal_base = 10

-- decimal digits without a leading zero
unfoldable pub number_in : List ℕ → Option ℕ
number_in word = if is_number (digits_value decimal_base word) then if_written decimal word (digits_value decimal_base word) else None

-- such a number, if it is at most this limit
unfoldable pub number_up_to : ℕ → List ℕ → Option ℕ
number_up_to limit word = do
  n ← number_in word
  if nat_le n limit then Some n else None

-- a sign stands in front, or a zero that isn't all
abbrev pub has_other_front : List ℕ → Bool
has_other_front word = slice_index word 0 == plus || (slice_index word 0 == zero_digit && nat_lt 1 (length word))

-- the side that the first letter names, and what follows it
unfoldable pub front_in : List ℕ → Option (Side × List ℕ)
front_in [] = None
front_in (letter ∷ digits) = side_in (letter ∷ []) >>= λ side. Some (side, digits)

-- a channel: the side that offered it and its id
unfoldable pub channel_in : List ℕ → Option ChannelName
channel_in word = do
  front ← front_in word
  id ← number_in front.1
  Some (record { offering = front.0; id = id })

-- any word but the hyphen is itself a name
unfoldable pub name_in : List ℕ → Option (List ℕ)
name_in word = if bytes_eq word hyphen then Some [] else if bytes_eq word [] then None else Some word

-- hex digits in lower case, two for each byte, or the hyphen
unfoldable pub bytes_in : List ℕ → Option (List ℕ)
bytes_in word = if bytes_eq word hyphen then Some [] else (result_ok (decode_of word) >>= if_written bytes_word word)

-- the byte of a list of one
abbrev pub only_byte : List ℕ → Option ℕ
only_byte [] = None
only_byte (b ∷ []) = Some b
only_byte (b ∷ c ∷ bs) = None

-- two hex digits in lower case
unfoldable pub byte_in : List ℕ → Option ℕ
byte_in word = bytes_in word >>= only_byte

-- hex digits in lower case, two for each of sixteen bytes
unfoldable pub nonce_in : List ℕ → Option (List ℕ)
nonce_in word = do
  nonce ← bytes_in word
  if length nonce == nonce_size then Some nonce else None

-- a capital letter, which stands in no hex word
abbrev pub is_capital : ℕ → Bool
is_capital b = nat_le capital_a b && nat_le b capital_z

-- a number, or the greatest count of its type
unfoldable pub count_in : List ℕ → Option ℕ
count_in word = if bytes_eq word (codes "all") then Some everything else number_in word

-- how messages are framed
unfoldable pub framing_in : List ℕ → Option Framing
framing_in word =
    if bytes_eq word (framing_word framing.Header) then Some framing.Header
    else if bytes_eq word (framing_word framing.Length) then Some framing.Length
    else None

-- how their bodies are written
unfoldable pub encoding_in : List ℕ → Option Encoding
encoding_in word =
    if bytes_eq word (encoding_word encoding.Json) then Some encoding.Json
    else if bytes_eq word (encoding_word encoding.Pack) then Some encoding.Pack
    else None

-- what is made of a result
unfoldable pub expect_in : List ℕ → Option Expect
expect_in word =
    if bytes_eq word (expect_word expect.Plain) then Some expect.Plain
    else if bytes_eq word (expect_word expect.Sequence) then Some expect.Sequence
    else None

-- whether a handle is one of this end
unfoldable pub owner_in : List ℕ → Option Bool
owner_in word =
    if bytes_eq word (owner_word true) then Some true
    else if bytes_eq word (owner_word false) then Some false
    else None

-- any word but the empty one
unfoldable pub method_in : List ℕ → Option (List ℕ)
method_in word = if bytes_eq word [] then None else Some word

abbrev pub with_sign : Bool → List ℕ → Option Signed
with_sign negative digits = do
  size ← number_in digits
  Some (record { negative = negative; size = size })

-- a number, behind a minus where it has that sign
unfoldable pub signed_in : List ℕ → Option Signed
signed_in [] = None
signed_in (first ∷ digits) = if first == minus then with_sign true digits else with_sign false (first ∷ digits)
