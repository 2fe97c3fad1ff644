-- Each word that is written is a text, and one word.
use Rattle.std.proofs.Common.{◌≡◌, ℕ, ◌<◌, ◌/◌, ◌%◌, Bool, true, false, eqb, ltb, ◌||◌, ◌&&◌, inl, inr, List, [], ◌∷◌, slice_index, refl, arith}
use Rattle.std.specs.Fmt.{decimal}
use Rattle.std.specs.Char.{digit_value}
use Rattle.std.specs.List.{list_all}
use Rattle.std.specs.Str.{is_utf8, IsAscii}
use Rattle.std.specs.Str.Parse.{AllDigits}
use Rattle.std.proofs.lemmas.Bool.{and_parts}
use Rattle.std.proofs.lemmas.Bool.Decides.{nat_tests}
use Rattle.std.proofs.lemmas.Fmt.{digits_decimal}
use Rattle.std.proofs.lemmas.List.Folds.{list_all-append}
use Rattle.std.proofs.lemmas.Str.{is_utf8-from_IsUtf8, IsUtf8-from_ascii}
use Rattle.std.proofs.lemmas.Str.Ascii.{IsAscii-nil, IsAscii-cons}
use Rattle.std.proofs.lemmas.Str.Parse.{digit_from_value}
use Rattle.hex.specs.Hex.{encode_lower, encode_with, lower_digits}
use Rattle.message_body.specs.declared.encoding.Encoding.{Encoding}
use Rattle.message_body.specs.declared.encoding.Encoding.TheVariants as encoding
use Rattle.message_framing.specs.declared.framing.Framing.{Framing}
use Rattle.message_framing.specs.declared.framing.Framing.TheVariants as framing
use Rattle.mux_run.specs.declared.steps.Side.{Side}
use Rattle.mux_run.specs.declared.steps.Side.TheVariants.{A, B}
use Rattle.rpc_items.specs.declared.calls.Expect.{Expect}
use Rattle.rpc_items.specs.declared.calls.Expect.TheVariants as expect
use Rattle.text_words.specs.declared.channel_name.ChannelName.{ChannelName}
use Rattle.text_words.specs.Bytes.{space}
use Rattle.text_words.specs.Written.{side_word, channel_word, name_word, bytes_word, count_word, framing_word, encoding_word, expect_word, owner_word, Signed, signed_word, hyphen, everything, is_number, is_name, is_byte, is_text_word, stands_in_word}
use Rattle.text_words.specs.Reading.{decimal_base}
use Rattle.text_words.proofs.ByteTests.{tested, and_true}
use Rattle.text_words.proofs.Numbers.{own}
use Rattle.text_words.proofs.HexWords.{lower_is_glyph}
use Rattle.text_words.proofs.Splits.{is_word}

-- a visible ASCII byte
abbrev is_visible : ℕ → Bool
is_visible b = ltb space b && ltb b 128

abbrev pub is_visible_word : List ℕ → Bool
is_visible_word w = list_all is_visible w

ascii_from_test : (w : List ℕ) → is_visible_word w ≡ true → IsAscii w
ascii_from_test [] h = IsAscii-nil
ascii_from_test (b ∷ w) h =
    let p = and_parts (is_visible b) (is_visible_word w) h in
    let q = and_parts (ltb space b) (ltb b 128) p.0 in
    IsAscii-cons b w (grind (arith, nat_tests)) (ascii_from_test w p.1)

stands_visible : (b : ℕ) → is_visible b ≡ true → stands_in_word b ≡ true
stands_visible b h = grind (arith, nat_tests)

word_from_test : (w : List ℕ) → is_visible_word w ≡ true → is_word w ≡ true
word_from_test [] h = refl
word_from_test (b ∷ w) h =
    let p = and_parts (is_visible b) (is_visible_word w) h in
    rw (stands_visible b p.0) (word_from_test w p.1)

pub visible_word : (w : List ℕ) → is_visible_word w ≡ true → is_text_word w ≡ true
visible_word w h = and_true (is_utf8 w) (is_word w) (is_utf8-from_IsUtf8 w (IsUtf8-from_ascii w (ascii_from_test w h))) (word_from_test w h)

visible_digit : (c : ℕ) → digit_value c < decimal_base → is_visible c ≡ true
visible_digit c h = let r = digit_from_value c h in grind (arith, nat_tests)

visible_digits : (ds : List ℕ) → AllDigits decimal_base ds → is_visible_word ds ≡ true
visible_digits [] h = refl
visible_digits (c ∷ cs) h = rw (visible_digit c h.0) (visible_digits cs h.1)

visible_decimal : (n : ℕ) → is_number n ≡ true → is_visible_word (decimal n) ≡ true
visible_decimal n h = visible_digits (decimal n) (digits_decimal own n (grind (arith, nat_tests)))

visible_glyph : (d : ℕ) → d < 16 → is_visible (slice_index lower_digits d) ≡ true
visible_glyph d lt = rw (lower_is_glyph d lt) (grind (arith, nat_tests))

visible_hex : (bs : List ℕ) → list_all is_byte bs ≡ true → is_visible_word (encode_lower bs) ≡ true
unfolding encode_with
visible_hex [] h = refl
visible_hex (b ∷ bs) h =
    let p = and_parts (is_byte b) (list_all is_byte bs) h in
    let small : b < 256 = grind (arith, nat_tests) in
    rw (visible_glyph (b / 16) (omega arith), visible_glyph (b % 16) (omega arith)) (visible_hex bs p.1)

visible_bytes : (bs : List ℕ) → list_all is_byte bs ≡ true → is_visible_word (bytes_word bs) ≡ true
visible_bytes [] h = refl
visible_bytes (b ∷ bs) h = visible_hex (b ∷ bs) h

visible_side : (s : Side) → is_visible_word (side_word s) ≡ true
visible_side A = refl
visible_side B = refl

number_from_test : (n : ℕ) → (is_number n || eqb n everything) ≡ true → eqb n everything ≡ false → is_number n ≡ true
number_from_test n h e = grind (arith, nat_tests)

visible_count : (n : ℕ) → (is_number n || eqb n everything) ≡ true → is_visible_word (count_word n) ≡ true
visible_count n h = elim (tested (eqb n everything)) [
  | inl e ↦ rw e refl
  | inr e ↦ rw e (visible_decimal n (number_from_test n h e))
]

pub text_side : (s : Side) → is_text_word (side_word s) ≡ true
text_side s = visible_word (side_word s) (visible_side s)

pub text_channel : (name : ChannelName) → is_number name.id ≡ true → is_text_word (channel_word name) ≡ true
text_channel name h =
    visible_word (channel_word name) (rw (list_all-append is_visible (side_word name.offering) (decimal name.id), visible_side name.offering, visible_decimal name.id h) refl)

pub text_name : (name : List ℕ) → is_name name ≡ true → is_text_word (name_word name) ≡ true
text_name [] h = visible_word hyphen refl
text_name (b ∷ bs) h = (and_parts (is_text_word (b ∷ bs)) _ h).0

pub text_number : (n : ℕ) → is_number n ≡ true → is_text_word (decimal n) ≡ true
text_number n h = visible_word (decimal n) (visible_decimal n h)

pub text_bytes : (bs : List ℕ) → list_all is_byte bs ≡ true → is_text_word (bytes_word bs) ≡ true
text_bytes bs h = visible_word (bytes_word bs) (visible_bytes bs h)

pub text_count : (n : ℕ) → (is_number n || eqb n everything) ≡ true → is_text_word (count_word n) ≡ true
text_count n h = visible_word (count_word n) (visible_count n h)

visible_framing : (x : Framing) → is_visible_word (framing_word x) ≡ true
visible_framing framing.Header = refl
visible_framing framing.Length = refl

pub text_framing : (x : Framing) → is_text_word (framing_word x) ≡ true
text_framing x = visible_word (framing_word x) (visible_framing x)

visible_encoding : (x : Encoding) → is_visible_word (encoding_word x) ≡ true
visible_encoding encoding.Json = refl
visible_encoding encoding.Pack = refl

pub text_encoding : (x : Encoding) → is_text_word (encoding_word x) ≡ true
text_encoding x = visible_word (encoding_word x) (visible_encoding x)

visible_expect : (x : Expect) → is_visible_word (expect_word x) ≡ true
visible_expect expect.Plain = refl
visible_expect expect.Sequence = refl

pub text_expect : (x : Expect) → is_text_word (expect_word x) ≡ true
text_expect x = visible_word (expect_word x) (visible_expect x)

visible_owner : (own : Bool) → is_visible_word (owner_word own) ≡ true
visible_owner true = refl
visible_owner false = refl

pub text_owner : (own : Bool) → is_text_word (owner_word own) ≡ true
text_owner own = visible_word (owner_word own) (visible_owner own)

visible_signed : (negative : Bool) (size : ℕ) → is_number size ≡ true → is_visible_word (signed_word (record { negative = negative; size = size })) ≡ true
visible_signed true size h = visible_decimal size h
visible_signed false size h = visible_decimal size h

pub text_signed : (x : Signed) → is_number x.size ≡ true → is_text_word (signed_word x) ≡ true
text_signed x h = visible_word (signed_word x) (visible_signed x.negative x.size h)
