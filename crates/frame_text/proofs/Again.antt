-- What is spelled so is read.
use Rattle.std.proofs.Common.{◌≡◌, ℕ, ◌+◌, ◌-◌, ◌≤◌, ◌<◌, Bool, true, false, cond, ltb, List, [], ◌++◌, length, Option, Some, None, Ok, refl, ap, ◌∙◌, arith, length-append, append_assoc}
use Rattle.std.specs.Prelude.{pos, negsuc}
use Rattle.std.proofs.lemmas.Bool.{le-ltb, lt-ltb, eq-eqb, ne_eqb}
use Rattle.std.proofs.lemmas.List.{take_at, drop_at, append-nil}
use Rattle.std.specs.Str.{is_utf8}
use Rattle.wire_base.specs.declared.limits.TheConstants.{COUNT_LIMIT, MAX_PAYLOAD}
use Rattle.wire_base.specs.declared.token.TokenHead.TheVariants as token
use Rattle.wire_base.specs.declared.reason.Reason.{Reason}
use Rattle.wire_base.specs.declared.reason.Reason.TheVariants.{BadCode, BadShape, BadId, BadSource, BadOffer, BadAcceptance, BadProcessed}
use Rattle.wire_base.specs.declared.frame.Version.{Version}
use Rattle.wire_base.specs.declared.frame.Version.TheVariants as version
use Rattle.wire_base.specs.declared.frame.Code.{Code}
use Rattle.wire_base.specs.declared.frame.Code.TheVariants as code
use Rattle.wire_base.specs.declared.frame.Origin.{Origin}
use Rattle.wire_base.specs.declared.frame.Origin.TheVariants as origin
use Rattle.wire_base.specs.declared.frame.Payload.{Payload}
use Rattle.wire_base.specs.declared.frame.Payload.TheVariants as payload
use Rattle.wire_base.specs.declared.frame.Frame.{Frame}
use Rattle.frame_text.specs.Codec.{is_packed, elements}
use Rattle.frame_text.specs.Frames.{code_number}
use Rattle.frame_text.specs.Front.{Whole}
use Rattle.frame_text.specs.Reading.{Reading, follow, done, a_number, a_str, a_bin, an_array, head_at, inner_at, code_in, id_in, origin_in, count_in, last_in, only, name_of, name_at, optional_at, offer_at, accepted_at, processed_at, ended, carried, placed, run_of, payload_at, content_at, origin_at, packed_at, frame_at, front}
use Rattle.wire_base.specs.Front.{front_of}
use Rattle.frame_text.specs.Spelling.{IsHead, IsOptional, with_optional, IsName, IsOffer, IsAcceptance, IsAcknowledgement, Carries, IsSource, IsElement, PackedFrameIs, FrameIs}
use Rattle.wire_base.proofs.TokenAgain.{head_at-again, token_at-again, inner_at-again, count_in-again}

-- ---- numbers

code_in-again : (c : Code) → code_in (pos (code_number c)) ≡ Some c
code_in-again code.Offer = refl
code_in-again code.OfferAccepted = refl
code_in-again code.Content = refl
code_in-again code.ContentWritingCompleted = refl
code_in-again code.ChannelTerminated = refl
code_in-again code.ContentProcessed = refl

id_in-again : (n : ℕ) → 0 < n → n < COUNT_LIMIT → id_in (pos n) ≡ Some n
id_in-again n some below = rw (lt-ltb 0 n some, lt-ltb n COUNT_LIMIT below) refl

abbrev present : Option ℕ → Bool
present None = false
present (Some n) = true

-- ---- payloads

optional-again : (window : Option ℕ) (reason : Reason) (b rest : List ℕ) → IsOptional window b → optional_at (present window) reason (b ++ rest) ≡ Ok (window, rest)
unfolding optional_at
optional-again None reason b rest is = rw is refl
optional-again (Some n) reason b rest is =
    ap (λ r. follow r (λ m. done (Some m))) (inner_at-again a_number count_in reason (token.Whole (pos n)) (pos n) n b rest is.0 refl (count_in-again n is.1))

array-again : (least : ℕ) (window : Option ℕ) → last_in least (with_optional least window) ≡ Some (present window)
array-again least None = rw (eq-eqb least least refl) refl
array-again least (Some n) =
    let apart : least + 1 ≡ least → ⊥ = λ e. omega (arith, e) in
    rw (ne_eqb (least + 1) least apart, eq-eqb (least + 1) (least + 1) refl) refl

inner_array-again : (least : ℕ) (window : Option ℕ) (reason : Reason) (b rest : List ℕ) → IsHead (token.Array (with_optional least window)) b → inner_at an_array (last_in least) reason (b ++ rest) ≡ Ok (present window, rest)
inner_array-again least window reason b rest is =
    inner_at-again an_array (last_in least) reason (token.Array (with_optional least window)) (with_optional least window) (present window) b rest is refl (array-again least window)

name_of-again : (total : ℕ) (name rest : List ℕ) → is_utf8 name ≡ true → name_of total (length name) (name ++ rest) ≡ Ok (name, rest)
name_of-again total name rest utf8 =
    let long : ltb (length (name ++ rest)) (length name) ≡ false = le-ltb (length (name ++ rest)) (length name) (omega (arith, length-append name rest)) in
    rw (long, take_at name rest (length name) refl, drop_at name rest (length name) refl, utf8) refl

name_at-again : (name b rest : List ℕ) → IsName name b → name_at (b ++ rest) ≡ Ok (name, rest)
unfolding name_at
name_at-again name b rest is =
    let regrouped : b ++ rest ≡ is.head ++ (name ++ rest) = ap (λ (s : List ℕ). s ++ rest) is.parts ∙ append_assoc is.head name rest in
    let total = length (b ++ rest) in
    ap (λ (s : List ℕ). follow (inner_at a_str (λ n. Some n) BadOffer s) (name_of total)) regrouped
    ∙ ap (λ r. follow r (name_of total)) (inner_at-again a_str (λ n. Some n) BadOffer (token.Str (length name)) (length name) (length name) is.head (name ++ rest) is.is_head refl refl)
    ∙ name_of-again total name rest is.utf8

offer_at-again : (name : List ℕ) (window : Option ℕ) (bytes : List ℕ) → IsOffer name window bytes → offer_at bytes ≡ Ok (payload.Offer name window, [])
unfolding offer_at
offer_at-again name window bytes is =
    let last : optional_at (present window) BadOffer is.second ≡ Ok (window, []) = rw (append-nil is.second) at (optional-again window BadOffer is.second [] is.is_window) in
    ap offer_at is.parts
    ∙ rw (inner_array-again 1 window BadOffer is.array (is.first ++ is.second) is.is_array, name_at-again name is.first is.second is.is_name, last) refl

accepted_at-again : (window : Option ℕ) (bytes : List ℕ) → IsAcceptance window bytes → accepted_at bytes ≡ Ok (payload.Accepted window, [])
unfolding accepted_at
accepted_at-again window bytes is =
    let last : optional_at (present window) BadAcceptance is.first ≡ Ok (window, []) = rw (append-nil is.first) at (optional-again window BadAcceptance is.first [] is.is_window) in
    ap accepted_at is.parts ∙ rw (inner_array-again 0 window BadAcceptance is.array is.first is.is_array, last) refl

processed_at-again : (count : ℕ) (bytes : List ℕ) → IsAcknowledgement count bytes → processed_at bytes ≡ Ok (payload.Processed count, [])
unfolding processed_at
processed_at-again count bytes is =
    let last : inner_at a_number count_in BadProcessed is.first ≡ Ok (count, []) =
    rw (append-nil is.first) at (inner_at-again a_number count_in BadProcessed (token.Whole (pos count)) (pos count) count is.first [] is.is_count.0 refl (count_in-again count is.is_count.1)) in
    let first : inner_at an_array (only 1) BadProcessed (is.array ++ is.first) ≡ Ok (1, is.first) =
    inner_at-again an_array (only 1) BadProcessed (token.Array 1) 1 1 is.array is.first is.is_array refl refl in
    ap processed_at is.parts ∙ rw (first, last) refl

carried-again : (c : Code) (p : Payload) (bytes : List ℕ) → Carries c p bytes → carried c bytes ≡ Ok p
unfolding carried
carried-again code.Offer (payload.Offer name window) bytes is = ap (λ r. ended BadOffer r) (offer_at-again name window bytes is)
carried-again code.OfferAccepted (payload.Accepted window) bytes is = ap (λ r. ended BadAcceptance r) (accepted_at-again window bytes is)
carried-again code.Content (payload.Content content) bytes is = ap (λ (s : List ℕ). Ok (payload.Content s)) is
carried-again code.ContentWritingCompleted payload.Nothing bytes is = refl
carried-again code.ChannelTerminated payload.Nothing bytes is = refl
carried-again code.ContentProcessed (payload.Processed count) bytes is = ap (λ r. ended BadProcessed r) (processed_at-again count bytes is)
carried-again c p bytes is = absurd is

-- ---- a payload's element

run_of-again : (total : ℕ) (bytes rest : List ℕ) → length bytes ≤ MAX_PAYLOAD → run_of total (length bytes) (bytes ++ rest) ≡ Ok (bytes, rest)
run_of-again total bytes rest most =
    let few : ltb MAX_PAYLOAD (length bytes) ≡ false = le-ltb MAX_PAYLOAD (length bytes) most in
    let long : ltb (length (bytes ++ rest)) (length bytes) ≡ false = le-ltb (length (bytes ++ rest)) (length bytes) (omega (arith, length-append bytes rest)) in
    rw (few, long, take_at bytes rest (length bytes) refl, drop_at bytes rest (length bytes) refl) refl

payload_at-again : (has : Bool) (bytes b rest : List ℕ) → IsElement has bytes b → payload_at has (b ++ rest) ≡ Ok (bytes, rest)
unfolding payload_at
payload_at-again false bytes b rest is = rw (is.0, is.1) refl
payload_at-again true bytes b rest is =
    let regrouped : b ++ rest ≡ is.head ++ (bytes ++ rest) = ap (λ (s : List ℕ). s ++ rest) is.parts ∙ append_assoc is.head bytes rest in
    let total = length (b ++ rest) in
    ap (λ (s : List ℕ). follow (head_at a_bin BadShape s) (run_of total)) regrouped
    ∙ ap (λ r. follow r (run_of total)) (head_at-again a_bin BadShape (token.Bin (length bytes)) (length bytes) is.head (bytes ++ rest) is.is_head refl)
    ∙ run_of-again total bytes rest is.most

content_at-again : (has : Bool) (c : Code) (p : Payload) (bytes b rest : List ℕ) → IsElement has bytes b → Carries c p bytes → content_at has c (b ++ rest) ≡ Ok (p, rest)
unfolding content_at
content_at-again has c p bytes b rest is carries =
    ap (λ r. follow r (λ s. placed (carried c s))) (payload_at-again has bytes b rest is)
    ∙ ap (λ r. placed r rest) (carried-again c p bytes carries)

-- ---- frames

origin_at-again : (v : Version) (o : Origin) (b rest : List ℕ) → IsSource v o b → origin_at v (b ++ rest) ≡ Ok (o, rest)
origin_at-again version.Three origin.Sender b rest is = token_at-again a_number origin_in BadSource (token.Whole (pos 1)) (pos 1) origin.Sender b rest is refl refl
origin_at-again version.Three origin.Receiver b rest is = token_at-again a_number origin_in BadSource (token.Whole (negsuc 0)) (negsuc 0) origin.Receiver b rest is refl refl
origin_at-again version.Three origin.ByParity b rest is = absurd is
origin_at-again version.Two origin.ByParity b rest is = rw is refl
origin_at-again version.One origin.ByParity b rest is = rw is refl
origin_at-again v o b rest is = absurd is

abbrev count_of : Version → Bool → ℕ
count_of v has = cond has (elements v + 1) (elements v)

elements-again : (v : Version) (has : Bool) → last_in (elements v) (count_of v has) ≡ Some has
elements-again version.One false = refl
elements-again version.One true = refl
elements-again version.Two false = refl
elements-again version.Two true = refl
elements-again version.Three false = refl
elements-again version.Three true = refl

pub packed_at-again : (v : Version) (f : Frame) (b rest : List ℕ) → PackedFrameIs v f b → packed_at v (b ++ rest) ≡ Ok (f, rest)
unfolding packed_at
packed_at-again v f b rest is =
    let d = is.last ++ rest in
    let c = is.third ++ d in
    let s = is.second ++ c in
    let a = is.first ++ s in
    let regrouped : b ++ rest ≡ is.array ++ a = rw is.parts (simp append_assoc) in
    ap (packed_at v) regrouped
    ∙ rw (
      token_at-again an_array (last_in (elements v)) BadShape (token.Array (count_of v is.has_payload)) (count_of v is.has_payload) is.has_payload is.array a is.is_array refl (elements-again v is.has_payload),
      token_at-again a_number code_in BadCode (token.Whole (pos (code_number f.code))) (pos (code_number f.code)) f.code is.first s is.is_code refl (code_in-again f.code),
      token_at-again a_number id_in BadId (token.Whole (pos f.id)) (pos f.id) f.id is.second c is.is_id refl (id_in-again f.id is.some_id is.id_below),
      origin_at-again v f.origin is.third d is.is_source,
      content_at-again is.has_payload f.code f.payload is.bytes is.last rest is.is_payload is.carries,
    ) refl

-- ---- the front

pub front_of-again : (f : Frame) (b rest : List ℕ) (r : Reading Frame) → r ≡ Ok (f, rest) → front_of (length (b ++ rest)) r ≡ Whole f (length b)
front_of-again f b rest r e =
    let same : length (b ++ rest) - length rest ≡ length b = omega (arith, length-append b rest) in
    rw e (ap (λ n. Whole f n) same)

pub spelled_front : (v : Version) (f : Frame) (b rest : List ℕ) → is_packed v ≡ true → FrameIs v f b → front v (b ++ rest) ≡ Whole f (length b)
unfolding front
spelled_front version.One f b rest p is = absurd cc
spelled_front version.Two f b rest p is = front_of-again f b rest (frame_at version.Two (b ++ rest)) (packed_at-again version.Two f b rest is)
spelled_front version.Three f b rest p is = front_of-again f b rest (frame_at version.Three (b ++ rest)) (packed_at-again version.Three f b rest is)
