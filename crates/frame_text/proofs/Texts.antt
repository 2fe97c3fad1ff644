-- The shortest spelling of a frame is a spelling.
use Rattle.std.proofs.Common.{◌≡◌, ℕ, ◌+◌, ◌^◌, ◌≤◌, ◌<◌, Bool, true, false, cond, List, [], ◌∷◌, ◌++◌, length, Option, Some, None, refl, sym, ap, ◌∙◌, arith, length-append, append_assoc}
use Rattle.std.specs.Prelude.{◌&&◌, nat_lt, pos}
use Rattle.std.specs.Str.{is_utf8}
use Rattle.std.proofs.lemmas.Bool.{ltb-true, leb-true, and_parts}
use Rattle.std.proofs.lemmas.List.{append-nil}
use Rattle.wire_base.specs.declared.limits.TheConstants.{COUNT_LIMIT, MAX_PAYLOAD}
use Rattle.wire_base.specs.declared.token.TokenHead.TheVariants as token
use Rattle.wire_base.specs.declared.frame.Version.{Version}
use Rattle.wire_base.specs.declared.frame.Version.TheVariants as version
use Rattle.wire_base.specs.declared.frame.Code.{Code}
use Rattle.wire_base.specs.declared.frame.Code.TheVariants as code
use Rattle.wire_base.specs.declared.frame.Origin.{Origin}
use Rattle.wire_base.specs.declared.frame.Origin.TheVariants as origin
use Rattle.wire_base.specs.declared.frame.Payload.{Payload}
use Rattle.wire_base.specs.declared.frame.Payload.TheVariants as payload
use Rattle.wire_base.specs.declared.frame.Frame.{Frame}
use Rattle.frame_text.specs.Codec.{is_packed, elements}
use Rattle.wire_base.specs.Shortest.{unsigned_text, str_head, bin_head, array_head}
use Rattle.wire_base.proofs.ShortestLemmas.{is_unsigned, is_str, is_bin}
use Rattle.frame_text.specs.Frames.{code_number, origin_text, str_text, payload_text, payload_element, is_empty, is_count, fits_code, fits_id, fits_origin, fits_length, fits, text}
use Rattle.frame_text.specs.Spelling.{IsHead, IsNumber, IsOptional, with_optional, IsName, Carries, IsSource, IsElement, PackedFrameIs, FrameIs}

-- ---- payloads

abbrev pub optional_text : Option ℕ → List ℕ
optional_text None = []
optional_text (Some n) = unsigned_text n

is_optional-text : (window : Option ℕ) → is_count window ≡ true → IsOptional window (optional_text window)
is_optional-text None fit = refl
is_optional-text (Some n) fit =
    let below : n < COUNT_LIMIT = ltb-true n COUNT_LIMIT fit in
    (is_unsigned n (omega (arith, below)), below)

is_name-text : (name : List ℕ) → is_utf8 name ≡ true → length name < 2 ^ 32 → IsName name (str_text name)
is_name-text name utf8 lt = record { head = str_head (length name); is_head = is_str (length name) lt; utf8 = utf8; parts = refl }

pub offer-text : (name : List ℕ) (window : Option ℕ) → payload_text (payload.Offer name window) ≡ array_head (with_optional 1 window) ++ (str_text name ++ optional_text window)
offer-text name None = ap (λ (s : List ℕ). array_head 1 ++ s) (sym (append-nil (str_text name)))
offer-text name (Some n) = append_assoc (array_head 2) (str_text name) (unsigned_text n)

offer_array : (window : Option ℕ) → IsHead (token.Array (with_optional 1 window)) (array_head (with_optional 1 window))
offer_array None = refl
offer_array (Some n) = refl

pub accepted-text : (window : Option ℕ) → payload_text (payload.Accepted window) ≡ array_head (with_optional 0 window) ++ optional_text window
accepted-text None = refl
accepted-text (Some n) = refl

accepted_array : (window : Option ℕ) → IsHead (token.Array (with_optional 0 window)) (array_head (with_optional 0 window))
accepted_array None = refl
accepted_array (Some n) = refl

name-fits : (name : List ℕ) (window : Option ℕ) → length (payload_text (payload.Offer name window)) ≤ MAX_PAYLOAD → length name < 2 ^ 32
name-fits name window h =
    let p : length (payload_text (payload.Offer name window)) ≡ length (array_head (with_optional 1 window)) + (length (str_head (length name)) + length name + length (optional_text window)) =
    ap length (offer-text name window) ∙ simp length-append in
    omega (arith, p)

carries-text : (c : Code) (p : Payload) → fits_code version.Two c p ≡ true → length (payload_text p) ≤ MAX_PAYLOAD → Carries c p (payload_text p)
carries-text code.Offer (payload.Offer name window) fit h =
    let both = and_parts (is_utf8 name) (is_count window) fit in
    record {
      array = array_head (with_optional 1 window);
      first = str_text name;
      second = optional_text window;
      is_array = offer_array window;
      is_name = is_name-text name both.0 (name-fits name window h);
      is_window = is_optional-text window both.1;
      parts = offer-text name window;
    }
carries-text code.OfferAccepted (payload.Accepted window) fit h =
    record { array = array_head (with_optional 0 window); first = optional_text window; is_array = accepted_array window; is_window = is_optional-text window fit; parts = accepted-text window }
carries-text code.Content (payload.Content bytes) fit h = refl
carries-text code.ContentWritingCompleted payload.Nothing fit h = tt
carries-text code.ChannelTerminated payload.Nothing fit h = tt
carries-text code.ContentProcessed (payload.Processed count) fit h =
    record { array = array_head 1; first = unsigned_text count; is_array = refl; is_count = is_optional-text (Some count) fit; parts = refl }
carries-text c p fit h = absurd cc

-- ---- frames

is_code-text : (c : Code) → IsNumber (pos (code_number c)) (unsigned_text (code_number c))
is_code-text code.Offer = refl
is_code-text code.OfferAccepted = refl
is_code-text code.Content = refl
is_code-text code.ContentWritingCompleted = refl
is_code-text code.ChannelTerminated = refl
is_code-text code.ContentProcessed = refl

is_source-text : (v : Version) (o : Origin) → is_packed v ≡ true → fits_origin v o ≡ true → IsSource v o (origin_text o)
is_source-text version.One o p fit = absurd cc
is_source-text version.Two origin.Sender p fit = absurd cc
is_source-text version.Two origin.Receiver p fit = absurd cc
is_source-text version.Two origin.ByParity p fit = refl
is_source-text version.Three origin.Sender p fit = refl
is_source-text version.Three origin.Receiver p fit = refl
is_source-text version.Three origin.ByParity p fit = absurd cc

is_array-text : (v : Version) (has : Bool) → IsHead (token.Array (cond has (elements v + 1) (elements v))) (array_head (cond has (elements v + 1) (elements v)))
is_array-text version.One false = refl
is_array-text version.One true = refl
is_array-text version.Two false = refl
is_array-text version.Two true = refl
is_array-text version.Three false = refl
is_array-text version.Three true = refl

-- the text of a frame with these bytes as its payload
abbrev pub text_with : Version → Frame → List ℕ → List ℕ
text_with v f bytes =
    array_head (cond (is_empty bytes) (elements v) (elements v + 1))
    ++ unsigned_text (code_number f.code) ++ unsigned_text f.id ++ origin_text f.origin ++ payload_element bytes

-- of an element for these bytes, if any
elements_are : (v : Version) (f : Frame) (has : Bool) (bytes last : List ℕ) → is_packed v ≡ true → 0 < f.id → f.id < COUNT_LIMIT → fits_origin v f.origin ≡ true → IsElement has bytes last → Carries f.code f.payload bytes →
    PackedFrameIs v f (array_head (cond has (elements v + 1) (elements v)) ++ unsigned_text (code_number f.code) ++ unsigned_text f.id ++ origin_text f.origin ++ last)
elements_are v f has bytes last p some below source element carries = record {
  has_payload = has;
  array = array_head (cond has (elements v + 1) (elements v));
  first = unsigned_text (code_number f.code);
  second = unsigned_text f.id;
  third = origin_text f.origin;
  last = last;
  bytes = bytes;
  is_array = is_array-text v has;
  is_code = is_code-text f.code;
  is_id = is_unsigned f.id (omega (arith, below));
  some_id = some;
  id_below = below;
  is_source = is_source-text v f.origin p source;
  is_payload = element;
  carries = carries;
  parts = simp append_assoc;
}

text_with-is : (v : Version) (f : Frame) (bytes : List ℕ) → is_packed v ≡ true → 0 < f.id → f.id < COUNT_LIMIT → fits_origin v f.origin ≡ true → length bytes ≤ MAX_PAYLOAD → Carries f.code f.payload bytes → PackedFrameIs v f (text_with v f bytes)
text_with-is v f [] p some below source most carries = elements_are v f false [] [] p some below source (refl, refl) carries
text_with-is v f (b ∷ bytes) p some below source most carries =
    let n = length (b ∷ bytes) in
    elements_are v f true (b ∷ bytes) (bin_head n ++ b ∷ bytes) p some below source
    (record { head = bin_head n; is_head = is_bin n (omega (arith, most)); most = most; parts = refl }) carries

-- what fits, part by part
pub record Fitting (v : Version) (f : Frame) : Type 0 where
  pub code : fits_code version.Two f.code f.payload ≡ true
  pub some_id : 0 < f.id
  pub id_below : f.id < COUNT_LIMIT
  pub origin : fits_origin v f.origin ≡ true
  pub most : length (payload_text f.payload) ≤ MAX_PAYLOAD

fitting-parts : (v : Version) (f : Frame) → (fits_code version.Two f.code f.payload && fits_id version.Two f.id && fits_origin v f.origin && fits_length version.Two f.payload) ≡ true → Fitting v f
fitting-parts v f e =
    let c = fits_code version.Two f.code f.payload in
    let i = fits_id version.Two f.id in
    let o = fits_origin v f.origin in
    let a = and_parts (c && i && o) (fits_length version.Two f.payload) e in
    let b = and_parts (c && i) o a.0 in
    let d = and_parts c i b.0 in
    let n = and_parts (nat_lt 0 f.id) (nat_lt f.id COUNT_LIMIT) d.1 in
    record {
      code = d.0;
      some_id = ltb-true 0 f.id n.0;
      id_below = ltb-true f.id COUNT_LIMIT n.1;
      origin = b.1;
      most = leb-true (length (payload_text f.payload)) MAX_PAYLOAD a.1;
    }

pub fitting : (v : Version) (f : Frame) → is_packed v ≡ true → fits v f ≡ true → Fitting v f
fitting version.One f p e = absurd cc
fitting version.Two f p e = fitting-parts version.Two f e
fitting version.Three f p e = fitting-parts version.Three f e

text-packed : (v : Version) (f : Frame) → is_packed v ≡ true → fits v f ≡ true → PackedFrameIs v f (text_with v f (payload_text f.payload))
text-packed v f p e =
    let q = fitting v f p e in
    text_with-is v f (payload_text f.payload) p q.some_id q.id_below q.origin q.most (carries-text f.code f.payload q.code q.most)

pub text_is : (v : Version) (f : Frame) → is_packed v ≡ true → fits v f ≡ true → FrameIs v f (text v f)
text_is version.One f p e = absurd cc
text_is version.Two f p e = text-packed version.Two f p e
text_is version.Three f p e = text-packed version.Three f p e
