-- No spelling is shorter than the text, so what is read fits.
use Rattle.std.proofs.Common.{◌≡◌, ℕ, zero, suc, ◌+◌, ◌-◌, ◌^◌, ◌≤◌, ◌<◌, Bool, true, false, cond, ltb, List, [], ◌∷◌, ◌++◌, length, take, drop, Option, Some, None, refl, sym, ap, subst, ◌∙◌, arith, length-append, inl, inr}
use Rattle.std.specs.Prelude.{◌&&◌, nat_lt, ◌==◌, ℤ, pos, negsuc}
use Rattle.std.specs.Int.{Width, w8, w16, w32, w64, w128, byte_len, from_be_bytes, cast_signed}
use mir.Val.{bits, hbits}
use Rattle.std.specs.Str.{is_utf8}
use Rattle.std.proofs.lemmas.Bool.{cases_lt, le-ltb, lt-ltb, ltb-true, le-leb, and_from}
use Rattle.std.proofs.lemmas.List.{take-append-drop}
use Rattle.wire_base.specs.declared.limits.TheConstants.{COUNT_LIMIT, MAX_PAYLOAD}
use Rattle.wire_base.specs.Head.{Kind, whole_head, unsigned, signed, str, bin, array, map, refused, kind_of, lettered, numbered, read_kind}
use Rattle.wire_base.specs.declared.token.TokenHead.{TokenHead}
use Rattle.wire_base.specs.declared.token.TokenHead.TheVariants as token
use Rattle.wire_base.specs.declared.token.HeadStep.TheVariants.{Got, Short}
use Rattle.wire_base.specs.declared.frame.Version.{Version}
use Rattle.wire_base.specs.declared.frame.Version.TheVariants as version
use Rattle.wire_base.specs.declared.frame.Code.{Code}
use Rattle.wire_base.specs.declared.frame.Code.TheVariants as code
use Rattle.wire_base.specs.declared.frame.Origin.{Origin}
use Rattle.wire_base.specs.declared.frame.Origin.TheVariants as origin
use Rattle.wire_base.specs.declared.frame.Payload.{Payload}
use Rattle.wire_base.specs.declared.frame.Payload.TheVariants as payload
use Rattle.wire_base.specs.declared.frame.Frame.{Frame}
use Rattle.frame_text.specs.Codec.{is_packed, elements}
use Rattle.wire_base.specs.Shortest.{unsigned_text, str_head, bin_head, array_head}
use Rattle.wire_base.proofs.ShortestLemmas.{length-unsigned_text, length-str_head, length-bin_head}
use Rattle.frame_text.specs.Frames.{code_number, origin_text, str_text, payload_text, payload_element, is_empty, is_count, text, fits_code, fits_id, fits_origin, fits_length, fits}
use Rattle.frame_text.specs.Front.{Whole}
use Rattle.frame_text.specs.Reading.{front}
use Rattle.frame_text.specs.Spelling.{AreBytes, IsHead, IsNumber, IsOptional, with_optional, IsOffer, Carries, IsSource, IsElement, PackedFrameIs, FrameIs}
use Rattle.wire_base.proofs.HeadLemmas.{head_within}
use Rattle.wire_base.proofs.TokenWithin.{tested}
use Rattle.frame_text.proofs.Found.{front_spelled}
use Rattle.frame_text.proofs.Texts.{optional_text, offer-text, accepted-text, text_with}

-- ---- bytes

bytes-cons : (x : ℕ) (a : List ℕ) → x < 256 → AreBytes a → AreBytes (x ∷ a)
bytes-cons x a first h zero = first
bytes-cons x a first h (suc i) = h i

pub bytes_left : (a b : List ℕ) → AreBytes (a ++ b) → AreBytes a
bytes_left [] b h = λ i. omega arith
bytes_left (x ∷ a) b h = bytes-cons x a (h 0) (bytes_left a b (λ k. h (suc k)))

pub bytes_right : (a b : List ℕ) → AreBytes (a ++ b) → AreBytes b
bytes_right [] b h = h
bytes_right (x ∷ a) b h = bytes_right a b (λ k. h (suc k))

pub bytes-take : (n : ℕ) (bytes : List ℕ) → AreBytes bytes → AreBytes (take n bytes)
bytes-take n bytes h = bytes_left (take n bytes) (drop n bytes) (rw (take-append-drop n bytes) h)

-- ---- how long shortest heads are

number-below_1 : (n : ℕ) → n < 0x100 → length (unsigned_text n) ≤ 2
number-below_1 n lt = elim (cases_lt n 0x80) [
  | inl a ↦ rw (lt-ltb n 0x80 a) (omega arith)
  | inr a ↦ rw (le-ltb n 0x80 a, lt-ltb n 0x100 lt) (omega arith)
]

number-below_2 : (n : ℕ) → n < 0x10000 → length (unsigned_text n) ≤ 3
number-below_2 n lt = elim (cases_lt n 0x100) [
  | inl b ↦ let p = number-below_1 n b in omega (arith, p)
  | inr b ↦ let a : 0x80 ≤ n = omega arith in rw (le-ltb n 0x80 a, le-ltb n 0x100 b, lt-ltb n 0x10000 lt) (omega arith)
]

number-below_4 : (n : ℕ) → n < 0x100000000 → length (unsigned_text n) ≤ 5
number-below_4 n lt = elim (cases_lt n 0x10000) [
  | inl b ↦ let p = number-below_2 n b in omega (arith, p)
  | inr c ↦
      let a : 0x80 ≤ n = omega arith in
      let b : 0x100 ≤ n = omega arith in
      rw (le-ltb n 0x80 a, le-ltb n 0x100 b, le-ltb n 0x10000 c, lt-ltb n 0x100000000 lt) (omega arith)
]

str-below_1 : (n : ℕ) → n < 0x100 → length (str_head n) ≤ 2
str-below_1 n lt = elim (cases_lt n 0x20) [
  | inl a ↦ rw (lt-ltb n 0x20 a) (omega arith)
  | inr a ↦ rw (le-ltb n 0x20 a, lt-ltb n 0x100 lt) (omega arith)
]

str-below_2 : (n : ℕ) → n < 0x10000 → length (str_head n) ≤ 3
str-below_2 n lt = elim (cases_lt n 0x100) [
  | inl b ↦ let p = str-below_1 n b in omega (arith, p)
  | inr b ↦ let a : 0x20 ≤ n = omega arith in rw (le-ltb n 0x20 a, le-ltb n 0x100 b, lt-ltb n 0x10000 lt) (omega arith)
]

-- ---- how long heads are

-- a number that takes so many bytes
below-1 : (bytes : List ℕ) → AreBytes bytes → from_be_bytes w8 bytes < 0x100
below-1 bytes h = omega (arith, h 0)

pub below-2 : (bytes : List ℕ) → AreBytes bytes → from_be_bytes w16 bytes < 0x10000
below-2 bytes h = omega (arith, h 0, h 1)

pub below-4 : (bytes : List ℕ) → AreBytes bytes → from_be_bytes w32 bytes < 0x100000000
below-4 bytes h = omega (arith, h 0, h 1, h 2, h 3)

number-wide : (w : Width) (bytes : List ℕ) → AreBytes bytes → length (unsigned_text (from_be_bytes w bytes)) ≤ byte_len w + 1
number-wide w8 bytes h = number-below_1 (from_be_bytes w8 bytes) (below-1 bytes h)
number-wide w16 bytes h = number-below_2 (from_be_bytes w16 bytes) (below-2 bytes h)
number-wide w32 bytes h = number-below_4 (from_be_bytes w32 bytes) (below-4 bytes h)
number-wide w64 bytes h = (length-unsigned_text (from_be_bytes w64 bytes)).1
number-wide w128 bytes h = let p = (length-unsigned_text (from_be_bytes w128 bytes)).1 in omega (arith, p)

str-wide : (w : Width) (bytes : List ℕ) → AreBytes bytes → length (str_head (from_be_bytes w bytes)) ≤ byte_len w + 1
str-wide w8 bytes h = str-below_1 (from_be_bytes w8 bytes) (below-1 bytes h)
str-wide w16 bytes h = str-below_2 (from_be_bytes w16 bytes) (below-2 bytes h)
str-wide w32 bytes h = (length-str_head (from_be_bytes w32 bytes)).1
str-wide w64 bytes h = let p = (length-str_head (from_be_bytes w64 bytes)).1 in omega (arith, p)
str-wide w128 bytes h = let p = (length-str_head (from_be_bytes w128 bytes)).1 in omega (arith, p)

-- what the first byte says in itself is small
abbrev IsSmall : Kind → Type 0
IsSmall (whole_head (token.Whole (pos m))) = m < 0x80
IsSmall (whole_head (token.Whole (negsuc k))) = Unit {0}
IsSmall (whole_head token.Nil) = Unit {0}
IsSmall (whole_head (token.Flag v)) = Unit {0}
IsSmall (whole_head (token.Str m)) = m < 0x20
IsSmall (whole_head (token.Bin m)) = ⊥
IsSmall (whole_head (token.Array m)) = Unit {0}
IsSmall (whole_head (token.Map m)) = Unit {0}
IsSmall (unsigned w) = Unit {0}
IsSmall (signed w) = Unit {0}
IsSmall (str w) = Unit {0}
IsSmall (bin w) = Unit {0}
IsSmall (array w) = Unit {0}
IsSmall (map w) = Unit {0}
IsSmall (refused r) = Unit {0}

either : (t : Bool) (x y : Kind) → IsSmall x → IsSmall y → IsSmall (cond t x y)
either true x y a b = a
either false x y a b = b

either_if : (t : Bool) (x y : Kind) → (t ≡ true → IsSmall x) → (t ≡ false → IsSmall y) → IsSmall (cond t x y)
either_if true x y a b = a refl
either_if false x y a b = b refl

lettered-small : (b : ℕ) → IsSmall (lettered b)
unfolding lettered
lettered-small b =
    either (b == 0xc0) _ _ tt (either (b == 0xc1) _ _ tt (either (b == 0xc2) _ _ tt (either (b == 0xc3) _ _ tt
    (either (b == 0xc4) _ _ tt (either (b == 0xc5) _ _ tt (either (b == 0xc6) _ _ tt (either (nat_lt b 0xca) _ _ tt
    (either (nat_lt b 0xcc) _ _ tt (either (b == 0xcc) _ _ tt (either (b == 0xcd) _ _ tt (either (b == 0xce) _ _ tt
    (either (b == 0xcf) _ _ tt (either (b == 0xd0) _ _ tt (either (b == 0xd1) _ _ tt (either (b == 0xd2) _ _ tt
    (either (b == 0xd3) _ _ tt (either (nat_lt b 0xd9) _ _ tt (either (b == 0xd9) _ _ tt (either (b == 0xda) _ _ tt
    (either (b == 0xdb) _ _ tt (either (b == 0xdc) _ _ tt (either (b == 0xdd) _ _ tt (either (b == 0xde) _ _ tt tt)))))))))))))))))))))))

kind-small : (b : ℕ) → IsSmall (kind_of b)
kind-small b =
    either_if (nat_lt b 0x80) _ _ (λ t. ltb-true b 0x80 t) (λ _.
    either (nat_lt b 0x90) _ _ tt
    (either (nat_lt b 0xa0) _ _ tt
    (either_if (nat_lt b 0xc0) _ _ (λ t. let lt : b < 0xc0 = ltb-true b 0xc0 t in omega arith) (λ _.
    either (nat_lt b 0xe0) _ _ (lettered-small b) tt))))

-- the head that a number made, and its length
pub record Numbered (w : Width) (f : ℕ → TokenHead) (rest : List ℕ) (h : TokenHead) (n : ℕ) : Type 0 where
  pub head_is : f (from_be_bytes w (take (byte_len w) rest)) ≡ h
  pub len_is : byte_len w + 1 ≡ n

numbered-is : (w : Width) (f : ℕ → TokenHead) (rest : List ℕ) (h : TokenHead) (n : ℕ) → numbered w f rest ≡ Got h n → Numbered w f rest h n
numbered-is w f rest h n e = elim (tested (ltb (length rest) (byte_len w))) [
  | inl t ↦ let g : Short ≡ Got h n = rw t at e in absurd cc
  | inr t ↦ let g : Got (f (from_be_bytes w (take (byte_len w) rest))) (byte_len w + 1) ≡ Got h n = rw t at e in record { head_is = cc; len_is = cc }
]

-- a signed number that isn't negative is its bytes' number
sign_of : (t : Bool) (v k n : ℕ) → cond t (pos v) (negsuc k) ≡ pos n → v ≡ n
sign_of true v k n e = cc
sign_of false v k n e = absurd cc

signed_pos : (w : Width) (v n : ℕ) → cast_signed w v ≡ pos n → v ≡ n
signed_pos w v n e = sign_of (ltb v (2 ^ hbits w)) v (2 ^ bits w - suc v) n e

-- ---- no head is shorter

pos_whole : (v n : ℕ) → token.Whole (pos v) ≡ token.Whole (pos n) → v ≡ n
pos_whole v n e = cc

whole_same : (y z : ℤ) → token.Whole y ≡ token.Whole z → y ≡ z
whole_same y z e = cc

str_same : (v n : ℕ) → token.Str v ≡ token.Str n → v ≡ n
str_same v n e = cc

one_head : (window : Option ℕ) (s : List ℕ) → length (array_head (with_optional 1 window) ++ s) ≡ 1 + length s
one_head None s = omega arith
one_head (Some n) s = omega arith

no_head : (window : Option ℕ) (s : List ℕ) → length (array_head (with_optional 0 window) ++ s) ≡ 1 + length s
no_head None s = omega arith
no_head (Some n) s = omega arith

number-kind : (k : Kind) (rest : List ℕ) (n : ℕ) → IsSmall k → AreBytes rest → read_kind k rest ≡ Got (token.Whole (pos n)) (length rest + 1) → length (unsigned_text n) ≤ length rest + 1
number-kind (whole_head (token.Whole (pos m))) rest n small h e =
    let same : m ≡ n = cc in
    let lt : n < 0x80 = omega (arith, small, same) in
    rw (lt-ltb n 0x80 lt) (omega arith)
number-kind (unsigned w) rest n small h e =
    let v = from_be_bytes w (take (byte_len w) rest) in
    let r = numbered-is w (λ x. token.Whole (pos x)) rest (token.Whole (pos n)) (length rest + 1) e in
    let is = r.head_is in
    let same : v ≡ n = pos_whole v n is in
    rw (← same) (omega (arith, r.len_is, number-wide w (take (byte_len w) rest) (bytes-take (byte_len w) rest h)))
number-kind (signed w) rest n small h e =
    let v = from_be_bytes w (take (byte_len w) rest) in
    let r = numbered-is w (λ x. token.Whole (cast_signed w x)) rest (token.Whole (pos n)) (length rest + 1) e in
    let same : v ≡ n = signed_pos w v n (whole_same (cast_signed w v) (pos n) r.head_is) in
    rw (← same) (omega (arith, r.len_is, number-wide w (take (byte_len w) rest) (bytes-take (byte_len w) rest h)))
number-kind (whole_head (token.Whole (negsuc k))) rest n small h e = absurd cc
number-kind (whole_head token.Nil) rest n small h e = absurd cc
number-kind (whole_head (token.Flag v)) rest n small h e = absurd cc
number-kind (whole_head (token.Str m)) rest n small h e = absurd cc
number-kind (whole_head (token.Bin m)) rest n small h e = absurd cc
number-kind (whole_head (token.Array m)) rest n small h e = absurd cc
number-kind (whole_head (token.Map m)) rest n small h e = absurd cc
number-kind (str w) rest n small h e = let r = numbered-is w (λ x. token.Str x) rest (token.Whole (pos n)) (length rest + 1) e in let is = r.head_is in absurd cc
number-kind (bin w) rest n small h e = let r = numbered-is w (λ x. token.Bin x) rest (token.Whole (pos n)) (length rest + 1) e in let is = r.head_is in absurd cc
number-kind (array w) rest n small h e = let r = numbered-is w (λ x. token.Array x) rest (token.Whole (pos n)) (length rest + 1) e in let is = r.head_is in absurd cc
number-kind (map w) rest n small h e = let r = numbered-is w (λ x. token.Map x) rest (token.Whole (pos n)) (length rest + 1) e in let is = r.head_is in absurd cc
number-kind (refused q) rest n small h e = absurd cc

pub number-shortest : (n : ℕ) (b : List ℕ) → AreBytes b → IsNumber (pos n) b → length (unsigned_text n) ≤ length b
number-shortest n [] h e = absurd cc
number-shortest n (x ∷ rest) h e =
    let longer : length (x ∷ rest) ≡ length rest + 1 = omega arith in
    let p = number-kind (kind_of x) rest n (kind-small x) (bytes_right (x ∷ []) rest h) (e ∙ ap (λ k. Got (token.Whole (pos n)) k) longer) in
    omega (arith, p)

str-kind : (k : Kind) (rest : List ℕ) (n : ℕ) → IsSmall k → AreBytes rest → read_kind k rest ≡ Got (token.Str n) (length rest + 1) → length (str_head n) ≤ length rest + 1
str-kind (whole_head (token.Str m)) rest n small h e =
    let same : m ≡ n = cc in
    let lt : n < 0x20 = omega (arith, small, same) in
    rw (lt-ltb n 0x20 lt) (omega arith)
str-kind (str w) rest n small h e =
    let v = from_be_bytes w (take (byte_len w) rest) in
    let r = numbered-is w (λ x. token.Str x) rest (token.Str n) (length rest + 1) e in
    let is = r.head_is in
    let same : v ≡ n = str_same v n is in
    rw (← same) (omega (arith, r.len_is, str-wide w (take (byte_len w) rest) (bytes-take (byte_len w) rest h)))
str-kind (whole_head (token.Whole z)) rest n small h e = absurd cc
str-kind (whole_head token.Nil) rest n small h e = absurd cc
str-kind (whole_head (token.Flag v)) rest n small h e = absurd cc
str-kind (whole_head (token.Bin m)) rest n small h e = absurd cc
str-kind (whole_head (token.Array m)) rest n small h e = absurd cc
str-kind (whole_head (token.Map m)) rest n small h e = absurd cc
str-kind (unsigned w) rest n small h e = let r = numbered-is w (λ x. token.Whole (pos x)) rest (token.Str n) (length rest + 1) e in let is = r.head_is in absurd cc
str-kind (signed w) rest n small h e = let r = numbered-is w (λ x. token.Whole (cast_signed w x)) rest (token.Str n) (length rest + 1) e in let is = r.head_is in absurd cc
str-kind (bin w) rest n small h e = let r = numbered-is w (λ x. token.Bin x) rest (token.Str n) (length rest + 1) e in let is = r.head_is in absurd cc
str-kind (array w) rest n small h e = let r = numbered-is w (λ x. token.Array x) rest (token.Str n) (length rest + 1) e in let is = r.head_is in absurd cc
str-kind (map w) rest n small h e = let r = numbered-is w (λ x. token.Map x) rest (token.Str n) (length rest + 1) e in let is = r.head_is in absurd cc
str-kind (refused q) rest n small h e = absurd cc

pub str-shortest : (n : ℕ) (b : List ℕ) → AreBytes b → IsHead (token.Str n) b → length (str_head n) ≤ length b
str-shortest n [] h e = absurd cc
str-shortest n (x ∷ rest) h e =
    let longer : length (x ∷ rest) ≡ length rest + 1 = omega arith in
    let p = str-kind (kind_of x) rest n (kind-small x) (bytes_right (x ∷ []) rest h) (e ∙ ap (λ k. Got (token.Str n) k) longer) in
    omega (arith, p)

optional-shortest : (window : Option ℕ) (b : List ℕ) → AreBytes b → IsOptional window b → length (optional_text window) ≤ length b
optional-shortest None b h is = omega arith
optional-shortest (Some n) b h is = number-shortest n b h is.0

-- ---- no payload is shorter

offer-shortest : (name : List ℕ) (window : Option ℕ) (bytes : List ℕ) → AreBytes bytes → IsOffer name window bytes → length (payload_text (payload.Offer name window)) ≤ length bytes
offer-shortest name window bytes h is =
    let all : AreBytes (is.array ++ (is.first ++ is.second)) = subst AreBytes is.parts h in
    let tail : AreBytes (is.first ++ is.second) = bytes_right is.array (is.first ++ is.second) all in
    let first : AreBytes (is.is_name.head ++ name) = subst AreBytes is.is_name.parts (bytes_left is.first is.second tail) in
    let a = str-shortest (length name) is.is_name.head (bytes_left is.is_name.head name first) is.is_name.is_head in
    let b = optional-shortest window is.second (bytes_right is.first is.second tail) is.is_window in
    let c = head_within is.array (token.Array (with_optional 1 window)) (length is.array) is.is_array in
    let d : length (payload_text (payload.Offer name window)) ≡ 1 + (length (str_head (length name)) + length name + length (optional_text window)) =
    ap length (offer-text name window) ∙ one_head window (str_text name ++ optional_text window) ∙ ap (λ k. 1 + k) (length-append (str_text name) (optional_text window) ∙ ap (λ k. k + length (optional_text window)) (length-append (str_head (length name)) name)) in
    let e : length bytes ≡ length is.array + (length is.is_name.head + length name + length is.second) =
    ap length is.parts ∙ length-append is.array (is.first ++ is.second) ∙ ap (λ k. length is.array + k) (length-append is.first is.second ∙ ap (λ k. k + length is.second) (ap length is.is_name.parts ∙ length-append is.is_name.head name)) in
    omega (arith, a, b, c.0, d, e)

pub carries-shortest : (c : Code) (p : Payload) (bytes : List ℕ) → AreBytes bytes → Carries c p bytes → length (payload_text p) ≤ length bytes
carries-shortest code.Offer (payload.Offer name window) bytes h is = offer-shortest name window bytes h is
carries-shortest code.OfferAccepted (payload.Accepted window) bytes h is =
    let all : AreBytes (is.array ++ is.first) = subst AreBytes is.parts h in
    let b = optional-shortest window is.first (bytes_right is.array is.first all) is.is_window in
    let c = head_within is.array (token.Array (with_optional 0 window)) (length is.array) is.is_array in
    let d : length (payload_text (payload.Accepted window)) ≡ 1 + length (optional_text window) = ap length (accepted-text window) ∙ no_head window (optional_text window) in
    let e : length bytes ≡ length is.array + length is.first = ap length is.parts ∙ length-append is.array is.first in
    omega (arith, b, c.0, d, e)
carries-shortest code.Content (payload.Content content) bytes h is = omega (arith, ap length is)
carries-shortest code.ContentWritingCompleted payload.Nothing bytes h is = omega arith
carries-shortest code.ChannelTerminated payload.Nothing bytes h is = omega arith
carries-shortest code.ContentProcessed (payload.Processed count) bytes h is =
    let all : AreBytes (is.array ++ is.first) = subst AreBytes is.parts h in
    let b = optional-shortest (Some count) is.first (bytes_right is.array is.first all) is.is_count in
    let c = head_within is.array (token.Array 1) (length is.array) is.is_array in
    let e : length bytes ≡ length is.array + length is.first = ap length is.parts ∙ length-append is.array is.first in
    omega (arith, b, c.0, e)
carries-shortest c p bytes h is = absurd is

-- ---- what is spelled fits

optional-fits : (window : Option ℕ) (b : List ℕ) → IsOptional window b → is_count window ≡ true
optional-fits None b is = refl
optional-fits (Some n) b is = lt-ltb n COUNT_LIMIT is.1

carries-fits : (c : Code) (p : Payload) (bytes : List ℕ) → Carries c p bytes → fits_code version.Two c p ≡ true
carries-fits code.Offer (payload.Offer name window) bytes is = and_from (is_utf8 name) (is_count window) is.is_name.utf8 (optional-fits window is.second is.is_window)
carries-fits code.OfferAccepted (payload.Accepted window) bytes is = optional-fits window is.first is.is_window
carries-fits code.Content (payload.Content content) bytes is = refl
carries-fits code.ContentWritingCompleted payload.Nothing bytes is = refl
carries-fits code.ChannelTerminated payload.Nothing bytes is = refl
carries-fits code.ContentProcessed (payload.Processed count) bytes is = optional-fits (Some count) is.first is.is_count
carries-fits c p bytes is = absurd is

source-fits : (v : Version) (o : Origin) (b : List ℕ) → IsSource v o b → fits_origin v o ≡ true
source-fits version.One origin.ByParity b is = refl
source-fits version.Two origin.ByParity b is = refl
source-fits version.Three origin.Sender b is = refl
source-fits version.Three origin.Receiver b is = refl
source-fits v o b is = absurd is

element-most : (has : Bool) (bytes b : List ℕ) → IsElement has bytes b → length bytes ≤ MAX_PAYLOAD
element-most false bytes b is = omega (arith, ap length is.0)
element-most true bytes b is = is.most

element-bytes : (has : Bool) (bytes b : List ℕ) → IsElement has bytes b → AreBytes b → AreBytes bytes
element-bytes false bytes b is h = subst AreBytes (sym is.0) (bytes_left [] b h)
element-bytes true bytes b is h = bytes_right is.head bytes (subst AreBytes is.parts h)

-- the bytes of a frame, part by part
pub record FrameBytes (v : Version) (f : Frame) (b : List ℕ) (is : PackedFrameIs v f b) : Type 0 where
  pub first : AreBytes is.first
  pub second : AreBytes is.second
  pub last : AreBytes is.last
  pub bytes : AreBytes is.bytes

frame-bytes : (v : Version) (f : Frame) (b : List ℕ) (is : PackedFrameIs v f b) → AreBytes b → FrameBytes v f b is
frame-bytes v f b is h =
    let s3 = is.third ++ is.last in
    let s2 = is.second ++ s3 in
    let s1 = is.first ++ s2 in
    let h1 : AreBytes s1 = bytes_right is.array s1 (subst AreBytes is.parts h) in
    let h2 : AreBytes s2 = bytes_right is.first s2 h1 in
    let h3 : AreBytes s3 = bytes_right is.second s3 h2 in
    let last : AreBytes is.last = bytes_right is.third is.last h3 in
    record { first = bytes_left is.first s2 h1; second = bytes_left is.second s3 h2; last = last; bytes = element-bytes is.has_payload is.bytes is.last is.is_payload last }

payload-most : (v : Version) (f : Frame) (b : List ℕ) → AreBytes b → PackedFrameIs v f b → length (payload_text f.payload) ≤ MAX_PAYLOAD
payload-most v f b h is =
    let parts = frame-bytes v f b is h in
    let short = carries-shortest f.code f.payload is.bytes parts.bytes is.carries in
    let most = element-most is.has_payload is.bytes is.last is.is_payload in
    omega (arith, short, most)

packed-fits : (v : Version) (f : Frame) (b : List ℕ) → AreBytes b → PackedFrameIs v f b → (fits_code version.Two f.code f.payload && fits_id version.Two f.id && fits_origin v f.origin && fits_length version.Two f.payload) ≡ true
packed-fits v f b h is =
    let c = fits_code version.Two f.code f.payload in
    let i = fits_id version.Two f.id in
    let o = fits_origin v f.origin in
    and_from (c && i && o) (fits_length version.Two f.payload)
    (and_from (c && i) o
    (and_from c i (carries-fits f.code f.payload is.bytes is.carries) (and_from (nat_lt 0 f.id) (nat_lt f.id COUNT_LIMIT) (lt-ltb 0 f.id is.some_id) (lt-ltb f.id COUNT_LIMIT is.id_below)))
    (source-fits v f.origin is.third is.is_source))
    (le-leb (length (payload_text f.payload)) MAX_PAYLOAD (payload-most v f b h is))

pub spelled_fits : (v : Version) (f : Frame) (b : List ℕ) → is_packed v ≡ true → AreBytes b → FrameIs v f b → fits v f ≡ true
spelled_fits version.One f b p h is = absurd cc
spelled_fits version.Two f b p h is = packed-fits version.Two f b h is
spelled_fits version.Three f b p h is = packed-fits version.Three f b h is

pub front_fits : (v : Version) (bytes : List ℕ) (f : Frame) (size : ℕ) → is_packed v ≡ true → AreBytes bytes → front v bytes ≡ Whole f size → fits v f ≡ true
front_fits v bytes f size p h e = spelled_fits v f (take size bytes) p (bytes-take size bytes h) (front_spelled v bytes f size p e)

-- ---- no frame is shorter

bin-below_1 : (n : ℕ) → n < 0x100 → length (bin_head n) ≤ 2
bin-below_1 n lt = rw (lt-ltb n 0x100 lt) (omega arith)

bin-below_2 : (n : ℕ) → n < 0x10000 → length (bin_head n) ≤ 3
bin-below_2 n lt = elim (cases_lt n 0x100) [
  | inl b ↦ let p = bin-below_1 n b in omega (arith, p)
  | inr b ↦ rw (le-ltb n 0x100 b, lt-ltb n 0x10000 lt) (omega arith)
]

bin-least : (n : ℕ) → 2 ≤ length (bin_head n)
bin-least n = elim (cases_lt n 0x100) [
  | inl b ↦ rw (lt-ltb n 0x100 b) (omega arith)
  | inr b ↦ elim (cases_lt n 0x10000) [
    | inl c ↦ rw (le-ltb n 0x100 b, lt-ltb n 0x10000 c) (omega arith)
    | inr c ↦ rw (le-ltb n 0x100 b, le-ltb n 0x10000 c) (omega arith)
  ]
]

bin-least_2 : (n : ℕ) → 0x100 ≤ n → 3 ≤ length (bin_head n)
bin-least_2 n b = elim (cases_lt n 0x10000) [
  | inl c ↦ rw (le-ltb n 0x100 b, lt-ltb n 0x10000 c) (omega arith)
  | inr c ↦ rw (le-ltb n 0x100 b, le-ltb n 0x10000 c) (omega arith)
]

bin-least_4 : (n : ℕ) → 0x10000 ≤ n → 5 ≤ length (bin_head n)
bin-least_4 n c = let b : 0x100 ≤ n = omega arith in rw (le-ltb n 0x100 b, le-ltb n 0x10000 c) (omega arith)

-- fewer bytes have no longer head
bin-grows : (m n : ℕ) → m ≤ n → length (bin_head m) ≤ length (bin_head n)
bin-grows m n le = elim (cases_lt n 0x100) [
  | inl b ↦ omega (arith, bin-below_1 m (omega arith), bin-least n)
  | inr b ↦ elim (cases_lt n 0x10000) [
    | inl c ↦ omega (arith, bin-below_2 m (omega arith), bin-least_2 n b)
    | inr c ↦ omega (arith, (length-bin_head m).1, bin-least_4 n c)
  ]
]

bin-wide : (w : Width) (bytes : List ℕ) → AreBytes bytes → length (bin_head (from_be_bytes w bytes)) ≤ byte_len w + 1
bin-wide w8 bytes h = bin-below_1 (from_be_bytes w8 bytes) (below-1 bytes h)
bin-wide w16 bytes h = bin-below_2 (from_be_bytes w16 bytes) (below-2 bytes h)
bin-wide w32 bytes h = (length-bin_head (from_be_bytes w32 bytes)).1
bin-wide w64 bytes h = let p = (length-bin_head (from_be_bytes w64 bytes)).1 in omega (arith, p)
bin-wide w128 bytes h = let p = (length-bin_head (from_be_bytes w128 bytes)).1 in omega (arith, p)

bin_same : (v n : ℕ) → token.Bin v ≡ token.Bin n → v ≡ n
bin_same v n e = cc

bin-kind : (k : Kind) (rest : List ℕ) (n : ℕ) → IsSmall k → AreBytes rest → read_kind k rest ≡ Got (token.Bin n) (length rest + 1) → length (bin_head n) ≤ length rest + 1
bin-kind (bin w) rest n small h e =
    let v = from_be_bytes w (take (byte_len w) rest) in
    let r = numbered-is w (λ x. token.Bin x) rest (token.Bin n) (length rest + 1) e in
    let is = r.head_is in
    let same : v ≡ n = bin_same v n is in
    rw (← same) (omega (arith, r.len_is, bin-wide w (take (byte_len w) rest) (bytes-take (byte_len w) rest h)))
bin-kind (whole_head (token.Bin m)) rest n small h e = absurd small
bin-kind (whole_head (token.Whole z)) rest n small h e = absurd cc
bin-kind (whole_head token.Nil) rest n small h e = absurd cc
bin-kind (whole_head (token.Flag v)) rest n small h e = absurd cc
bin-kind (whole_head (token.Str m)) rest n small h e = absurd cc
bin-kind (whole_head (token.Array m)) rest n small h e = absurd cc
bin-kind (whole_head (token.Map m)) rest n small h e = absurd cc
bin-kind (unsigned w) rest n small h e = let r = numbered-is w (λ x. token.Whole (pos x)) rest (token.Bin n) (length rest + 1) e in let is = r.head_is in absurd cc
bin-kind (signed w) rest n small h e = let r = numbered-is w (λ x. token.Whole (cast_signed w x)) rest (token.Bin n) (length rest + 1) e in let is = r.head_is in absurd cc
bin-kind (str w) rest n small h e = let r = numbered-is w (λ x. token.Str x) rest (token.Bin n) (length rest + 1) e in let is = r.head_is in absurd cc
bin-kind (array w) rest n small h e = let r = numbered-is w (λ x. token.Array x) rest (token.Bin n) (length rest + 1) e in let is = r.head_is in absurd cc
bin-kind (map w) rest n small h e = let r = numbered-is w (λ x. token.Map x) rest (token.Bin n) (length rest + 1) e in let is = r.head_is in absurd cc
bin-kind (refused q) rest n small h e = absurd cc

bin-shortest : (n : ℕ) (b : List ℕ) → AreBytes b → IsHead (token.Bin n) b → length (bin_head n) ≤ length b
bin-shortest n [] h e = absurd cc
bin-shortest n (x ∷ rest) h e =
    let longer : length (x ∷ rest) ≡ length rest + 1 = omega arith in
    let p = bin-kind (kind_of x) rest n (kind-small x) (bytes_right (x ∷ []) rest h) (e ∙ ap (λ k. Got (token.Bin n) k) longer) in
    omega (arith, p)

-- an element that isn't left out is no shorter than that of fewer bytes
element-text : (has : Bool) (few bytes b : List ℕ) → IsElement has bytes b → AreBytes b → length few ≤ length bytes → length (payload_element few) ≤ length b
element-text has [] bytes b is h le = omega arith
element-text false (x ∷ few) bytes b is h le = absurd (omega (arith, ap length is.0))
element-text true (x ∷ few) bytes b is h le =
    let a = bin-shortest (length bytes) is.head (bytes_left is.head bytes (subst AreBytes is.parts h)) is.is_head in
    let g = bin-grows (length (x ∷ few)) (length bytes) le in
    let c : length (payload_element (x ∷ few)) ≡ length (bin_head (length (x ∷ few))) + length (x ∷ few) = length-append (bin_head (length (x ∷ few))) (x ∷ few) in
    let d : length b ≡ length is.head + length bytes = ap length is.parts ∙ length-append is.head bytes in
    omega (arith, a, g, c, d, le)

source-text : (v : Version) (o : Origin) (b : List ℕ) → IsSource v o b → length (origin_text o) ≤ length b
source-text version.One origin.ByParity b is = omega arith
source-text version.Two origin.ByParity b is = omega arith
source-text version.Three origin.Sender b is = let p = head_within b (token.Whole (pos 1)) (length b) is in omega (arith, p.0)
source-text version.Three origin.Receiver b is = let p = head_within b (token.Whole (negsuc 0)) (length b) is in omega (arith, p.0)
source-text v o b is = absurd is

array-one : (v : Version) (t : Bool) → length (array_head (cond t (elements v) (elements v + 1))) ≡ 1
array-one version.One true = refl
array-one version.One false = refl
array-one version.Two true = refl
array-one version.Two false = refl
array-one version.Three true = refl
array-one version.Three false = refl

text_with-len : (v : Version) (f : Frame) (bytes : List ℕ) → length (text_with v f bytes) ≡ 1 + length (unsigned_text (code_number f.code)) + length (unsigned_text f.id) + length (origin_text f.origin) + length (payload_element bytes)
text_with-len v f bytes =
    let a = array_head (cond (is_empty bytes) (elements v) (elements v + 1)) in
    let c = unsigned_text (code_number f.code) in
    let i = unsigned_text f.id in
    let o = origin_text f.origin in
    let e = payload_element bytes in
    length-append (a ++ c ++ i ++ o) e ∙ ap (λ k. k + length e) (length-append (a ++ c ++ i) o ∙ ap (λ k. k + length o) (length-append (a ++ c) i ∙ ap (λ k. k + length i) (length-append a c ∙ ap (λ k. k + length c) (array-one v (is_empty bytes)))))

packed-shortest : (v : Version) (f : Frame) (b : List ℕ) → AreBytes b → PackedFrameIs v f b → length (text_with v f (payload_text f.payload)) ≤ length b
packed-shortest v f b h is =
    let parts = frame-bytes v f b is h in
    let short = carries-shortest f.code f.payload is.bytes parts.bytes is.carries in
    let a = head_within is.array (token.Array (cond is.has_payload (elements v + 1) (elements v))) (length is.array) is.is_array in
    let c = number-shortest (code_number f.code) is.first parts.first is.is_code in
    let i = number-shortest f.id is.second parts.second is.is_id in
    let o = source-text v f.origin is.third is.is_source in
    let e = element-text is.has_payload (payload_text f.payload) is.bytes is.last is.is_payload parts.last short in
    let len : length b ≡ length is.array + (length is.first + (length is.second + (length is.third + length is.last))) =
    ap length is.parts
    ∙ length-append is.array (is.first ++ (is.second ++ (is.third ++ is.last)))
    ∙ ap (λ k. length is.array + k) (length-append is.first (is.second ++ (is.third ++ is.last))
    ∙ ap (λ k. length is.first + k) (length-append is.second (is.third ++ is.last) ∙ ap (λ k. length is.second + k) (length-append is.third is.last))) in
    omega (arith, a.0, c, i, o, e, len, text_with-len v f (payload_text f.payload))

pub packed_text-shortest : (v : Version) (f : Frame) (b : List ℕ) → is_packed v ≡ true → AreBytes b → FrameIs v f b → length (text v f) ≤ length b
packed_text-shortest version.One f b p h is = absurd cc
packed_text-shortest version.Two f b p h is = packed-shortest version.Two f b h is
packed_text-shortest version.Three f b p h is = packed-shortest version.Three f b h is
