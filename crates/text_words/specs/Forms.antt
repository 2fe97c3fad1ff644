-- The forms of words: what a word of a form stands for, how it is written, and what it is read as.
use Rattle.std.specs.Prelude.{ℕ, nat_le, ◌==◌, List, [], ◌∷◌, Bool, true, ◌&&◌, ◌||◌, Option, Some, None, is_some, option_map, decimal}
use Rattle.std.specs.List.{list_all}
use Rattle.message_body.specs.declared.encoding.Encoding.{Encoding}
use Rattle.message_framing.specs.declared.framing.Framing.{Framing}
use Rattle.mux_run.specs.declared.steps.Side.{Side}
use Rattle.rpc_items.specs.declared.calls.Expect.{Expect}
use Rattle.text_words.specs.declared.channel_name.ChannelName.{ChannelName}
use Rattle.text_words.specs.Written.{side_word, channel_word, name_word, bytes_word, count_word, framing_word, encoding_word, expect_word, owner_word, Signed, signed_word, everything, is_number, is_name, is_byte, is_nonce, is_method, is_text_word}
use Rattle.text_words.specs.Reading.{◌>>=◌, side_in, channel_in, name_in, number_up_to, number_in, bytes_in, byte_in, nonce_in, count_in, framing_in, encoding_in, expect_in, owner_in, method_in, signed_in}
use Rattle.text_words.specs.Json.{json_id_in}

-- `limited` is a number of at most this limit, `count` a number or all that is there, `owner` whether a handle is one of this end, `json_id`
-- an id as JSON, which has more than one text and therefore stands for its text
pub data Form : Type 0 where
  side : Form
  channel : Form
  name : Form
  number : Form
  limited : ℕ → Form
  bytes : Form
  byte : Form
  nonce : Form
  count : Form
  framing : Form
  encoding : Form
  expect : Form
  owner : Form
  method : Form
  signed : Form
  json_id : Form

-- what a word of the form stands for
abbrev pub FormValue : Form → Type 0
FormValue side = Side
FormValue channel = ChannelName
FormValue name = List ℕ
FormValue number = ℕ
FormValue (limited limit) = ℕ
FormValue bytes = List ℕ
FormValue byte = ℕ
FormValue nonce = List ℕ
FormValue count = ℕ
FormValue framing = Framing
FormValue encoding = Encoding
FormValue expect = Expect
FormValue owner = Bool
FormValue method = List ℕ
FormValue signed = Signed
FormValue json_id = List ℕ

-- the word of a value
abbrev pub write_form : (f : Form) → FormValue f → List ℕ
write_form side x = side_word x
write_form channel x = channel_word x
write_form name x = name_word x
write_form number x = decimal x
write_form (limited limit) x = decimal x
write_form bytes x = bytes_word x
write_form byte x = bytes_word (x ∷ [])
write_form nonce x = bytes_word x
write_form count x = count_word x
write_form framing x = framing_word x
write_form encoding x = encoding_word x
write_form expect x = expect_word x
write_form owner x = owner_word x
write_form method x = x
write_form signed x = signed_word x
write_form json_id x = x

-- the value of a word, if it has the form
abbrev pub read_form : (f : Form) → List ℕ → Option (FormValue f)
read_form side word = side_in word
read_form channel word = channel_in word
read_form name word = name_in word
read_form number word = number_in word
read_form (limited limit) word = number_up_to limit word
read_form bytes word = bytes_in word
read_form byte word = byte_in word
read_form nonce word = nonce_in word
read_form count word = count_in word
read_form framing word = framing_in word
read_form encoding word = encoding_in word
read_form expect word = expect_in word
read_form owner word = owner_in word
read_form method word = method_in word
read_form signed word = signed_in word
read_form json_id word = option_map (λ _. word) (json_id_in word)

-- a value that has a word
abbrev pub is_value : (f : Form) → FormValue f → Bool
is_value side x = true
is_value channel x = is_number x.id
is_value name x = is_name x
is_value number x = is_number x
is_value (limited limit) x = is_number x && nat_le x limit
is_value bytes x = list_all is_byte x
is_value byte x = is_byte x
is_value nonce x = is_nonce x
is_value count x = is_number x || x == everything
is_value framing x = true
is_value encoding x = true
is_value expect x = true
is_value owner x = true
is_value method x = is_method x
is_value signed x = is_number x.size
is_value json_id x = is_text_word x && is_some (json_id_in x)

-- a value for each of these forms
abbrev pub FormValues : List Form → Type 0
FormValues [] = Unit {0}
FormValues (f ∷ fs) = FormValue f × FormValues fs

-- a word for each
abbrev pub write_forms : (fs : List Form) → FormValues fs → List (List ℕ)
write_forms [] xs = []
write_forms (f ∷ fs) xs = write_form f xs.0 ∷ write_forms fs xs.1

-- the values of the first words, if there are as many and they have these forms, and the words behind them
abbrev pub read_front : (fs : List Form) → List (List ℕ) → Option (FormValues fs × List (List ℕ))
read_front [] words = Some (tt, words)
read_front (f ∷ fs) [] = None
read_front (f ∷ fs) (word ∷ words) = do
  x ← read_form f word
  front ← read_front fs words
  Some ((x, front.0), front.1)

-- values that have words
abbrev pub are_values : (fs : List Form) → FormValues fs → Bool
are_values [] xs = true
are_values (f ∷ fs) xs = is_value f xs.0 && are_values fs xs.1
