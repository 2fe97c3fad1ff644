-- How the words of scripts and reports are written.
use Rattle.std.specs.Prelude.{ℕ, ℤ, pos, neg_ℤ, ◌-◌, ◌^◌, ◌==◌, nat_lt, List, [], ◌∷◌, ◌++◌, Bool, true, false, not, ◌&&◌, ◌||◌, if◌then◌else◌, codes, decimal, length}
use Rattle.std.specs.List.{list_all}
use Rattle.std.specs.Str.{is_utf8, bytes_eq}
use Rattle.hex.specs.Hex.{encode_lower}
use Rattle.mux_items.specs.declared.channel.ChannelKey.{ChannelKey}
use Rattle.mux_run.specs.declared.steps.Side.{Side}
use Rattle.mux_run.specs.declared.steps.Side.TheVariants.{A, B}
use Rattle.text_words.specs.declared.channel_name.ChannelName.{ChannelName}
use Rattle.message_body.specs.declared.encoding.Encoding.{Encoding}
use Rattle.message_body.specs.declared.encoding.Encoding.TheVariants as encoding
use Rattle.message_framing.specs.declared.framing.Framing.{Framing}
use Rattle.message_framing.specs.declared.framing.Framing.TheVariants as framing
use Rattle.rpc_items.specs.declared.calls.Expect.{Expect}
use Rattle.rpc_items.specs.declared.calls.Expect.TheVariants as expect
use Rattle.text_words.specs.Bytes.{space, line_feed_byte}
use Rattle.mux_items.specs.Limits.{nonce_size}

-- the letter of a side
abbrev pub side_word : Side → List ℕ
side_word A = codes "A"
side_word B = codes "B"

abbrev pub other_side : Side → Side
other_side A = B
other_side B = A

-- whether both are one side
abbrev pub is_same_side : Side → Side → Bool
is_same_side A A = true
is_same_side A B = false
is_same_side B A = false
is_same_side B B = true

-- a channel of an end of this side, by the side that offered it
abbrev pub name_at : Side → ChannelKey → ChannelName
name_at side key = record { offering = if key.own then side else other_side side; id = key.id }

-- the channel with this name at an end of this side
abbrev pub key_at : Side → ChannelName → ChannelKey
key_at side name = record { id = name.id; own = is_same_side name.offering side }

-- a channel: the side that offered it and its id, as A1
abbrev pub channel_word : ChannelName → List ℕ
channel_word name = side_word name.offering ++ decimal name.id

-- what stands for an empty name and for no bytes
abbrev pub hyphen : List ℕ
hyphen = codes "-"

-- a name, and the hyphen for the empty one
abbrev pub name_word : List ℕ → List ℕ
name_word [] = hyphen
name_word (b ∷ bs) = b ∷ bs

-- two hex digits in lower case for each byte, and the hyphen for none
abbrev pub bytes_word : List ℕ → List ℕ
bytes_word [] = hyphen
bytes_word (b ∷ bs) = encode_lower (b ∷ bs)

-- the greatest count of its type stands for all that is there
abbrev pub everything : ℕ
everything = 2 ^ 64 - 1

-- a count of a delivery
abbrev pub count_word : ℕ → List ℕ
count_word count = if count == everything then codes "all" else decimal count

-- how the messages of a connection are framed
abbrev pub framing_word : Framing → List ℕ
framing_word framing.Header = codes "header"
framing_word framing.Length = codes "length"

-- how their bodies are written
abbrev pub encoding_word : Encoding → List ℕ
encoding_word encoding.Json = codes "json"
encoding_word encoding.Pack = codes "pack"

-- what is made of the result of a request
abbrev pub expect_word : Expect → List ℕ
expect_word expect.Plain = codes "plain"
expect_word expect.Sequence = codes "sequence"

-- whose handle it is: one of this end, or of the peer
abbrev pub owner_word : (own : Bool) → List ℕ
owner_word true = codes "own"
owner_word false = codes "peer"

-- a number with a sign, as it is written: the code of an error
pub record Signed : Type 0 where
  pub negative : Bool
  pub size : ℕ

abbrev pub signed_word : Signed → List ℕ
signed_word n = if n.negative then codes "-" ++ decimal n.size else decimal n.size

-- the number that it is; the sign of 0 says nothing
abbrev pub signed_value : Signed → ℤ
signed_value n = if n.negative then neg_ℤ (pos n.size) else pos n.size

-- the text that ends a line
abbrev pub line_feed : List ℕ
line_feed = line_feed_byte ∷ []

-- the numbers that words can be are below this
abbrev pub number_bound : ℕ
number_bound = 2 ^ 32

-- a number that a word can be
abbrev pub is_number : ℕ → Bool
is_number n = nat_lt n number_bound

-- neither a space nor a line feed
abbrev pub stands_in_word : ℕ → Bool
stands_in_word b = not (b == space || b == line_feed_byte)

-- no line feed
abbrev pub stands_in_line : ℕ → Bool
stands_in_line b = not (b == line_feed_byte)

-- a text without a line feed
abbrev pub is_line_text : List ℕ → Bool
is_line_text text = is_utf8 text && list_all stands_in_line text

-- a text that is one word or empty
abbrev pub is_text_word : List ℕ → Bool
is_text_word word = is_utf8 word && list_all stands_in_word word

-- a word that isn't empty
abbrev pub is_method : List ℕ → Bool
is_method word = is_text_word word && not (bytes_eq word [])

-- a name that a word can be: a text that is one word or empty, and not the hyphen
abbrev pub is_name : List ℕ → Bool
is_name name = is_text_word name && not (bytes_eq name hyphen)

-- a byte's value
abbrev pub is_byte : ℕ → Bool
is_byte b = nat_lt b 256

-- the bytes of a nonce
abbrev pub is_nonce : List ℕ → Bool
is_nonce nonce = length nonce == nonce_size && list_all is_byte nonce
