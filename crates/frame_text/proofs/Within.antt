-- A reading stops within the bytes that it was given, and near their front.
use Rattle.std.proofs.Common.{◌≡◌, ℕ, ◌+◌, ◌*◌, ◌≤◌, ◌<◌, Bool, true, false, cond, ltb, List, length, take, drop, Some, None, Result, Ok, Err, arith, length-drop, inl, inr, subst}
use Rattle.std.specs.Prelude.{◌==◌}
use Rattle.std.specs.Int.{w8, w16, w32}
use Rattle.std.specs.Str.{is_utf8}
use Rattle.std.proofs.lemmas.Bool.{ltb-false}
use Rattle.std.proofs.lemmas.List.{length-take}
use Rattle.wire_base.specs.declared.limits.TheConstants.{FRAME_BOUND, MAX_PAYLOAD}
use Rattle.wire_base.specs.Head.{head_of}
use Rattle.wire_base.specs.declared.reason.Reason.{Reason}
use Rattle.wire_base.specs.declared.reason.Reason.TheVariants.{BadCode, BadShape, BadId, BadSource, BadOffer, BadAcceptance, BadProcessed, BadName}
use Rattle.wire_base.specs.declared.frame.Version.{Version}
use Rattle.wire_base.specs.declared.frame.Version.TheVariants as version
use Rattle.wire_base.specs.declared.frame.Code.{Code}
use Rattle.wire_base.specs.declared.frame.Code.TheVariants as code
use Rattle.wire_base.specs.declared.frame.Origin.TheVariants as origin
use Rattle.wire_base.specs.declared.frame.Payload.{Payload}
use Rattle.wire_base.specs.declared.frame.Payload.TheVariants as payload
use Rattle.wire_base.specs.declared.frame.Frame.{Frame}
use Rattle.wire_base.specs.declared.reading.Fault.{Fault}
use Rattle.wire_base.specs.declared.reading.Fault.TheVariants.{Ends, Breaks}
use Rattle.frame_text.specs.Reading.{Reading, follow, done, a_number, a_str, a_bin, an_array, head_at, token_at, inner_at, code_in, id_in, origin_in, count_in, last_in, only, name_of, name_at, optional_at, offer_at, accepted_at, processed_at, spoiled, ended, carried, placed, run_of, payload_at, content_at, origin_at, packed_at, field_at, bytes_at, plain_code, plain_id, plain_carried, plain_content_at, plain_at, frame_at, front}
use Rattle.wire_base.specs.Front.{front_of}
use Rattle.frame_text.specs.Front.{Front, Whole, Short, Broken}
use Rattle.frame_text.specs.Codec.{is_packed, elements}
use Rattle.wire_base.proofs.TokenWithin.{tested, IsWithin, Stops, stops-then, stops-done, head_at-stops, token_at-stops, IsBelow, Ends-below, below-then, below-done, inner_at-below, field_at-stops, field_at-below, IsCut, bytes_at-is, IsProper, proper-from, proper-follow}
use Rattle.wire_base.proofs.Fronts.{IsFrontWithin, front_of-within}

-- ---- payloads

-- a fault of a token that began there, or what a reader made of the bytes after its head
name_of-below : (total n : ℕ) (rest : List ℕ) → length rest ≤ total → IsBelow total (name_of total n rest)
name_of-below total n rest h =
    elim (ltb (length rest) n) as (λ t. IsBelow {A = List ℕ} total (cond t (Err (Breaks total BadOffer)) (cond (is_utf8 (take n rest)) (Ok (take n rest, drop n rest)) (Err (Breaks total BadName))))) [
      | true ↦ omega arith
      | false ↦ elim (is_utf8 (take n rest)) as (λ t. IsBelow {A = List ℕ} total (cond t (Ok (take n rest, drop n rest)) (Err (Breaks total BadName)))) [
        | true ↦ omega (arith, length-drop n rest)
        | false ↦ omega arith
      ]
    ]

name-follows : (total : ℕ) (r : Reading ℕ) → IsBelow total r → IsBelow total (follow r (name_of total))
name-follows total (Ok x) h = name_of-below total x.0 x.1 h
name-follows total (Err Ends) h = tt
name-follows total (Err (Breaks left reason)) h = h

name_at-below : Ends-below name_at
unfolding name_at
name_at-below = record { at = λ bytes. name-follows (length bytes) (inner_at a_str (λ n. Some n) BadOffer bytes) ((inner_at-below a_str (λ n. Some n) BadOffer).at bytes) }

optional_at-below : (present : Bool) (reason : Reason) → Ends-below (optional_at present reason)
unfolding optional_at
optional_at-below false reason = record { at = λ bytes. omega arith }
optional_at-below true reason = below-then (inner_at a_number count_in reason) (λ n. done (Some n)) (inner_at-below a_number count_in reason) (λ n. below-done (Some n))

offer_at-below : Ends-below offer_at
unfolding offer_at
offer_at-below =
    below-then (inner_at an_array (last_in 1) BadOffer) _ (inner_at-below an_array (last_in 1) BadOffer) (λ has.
    below-then name_at _ name_at-below (λ name.
    below-then (optional_at has BadOffer) _ (optional_at-below has BadOffer) (λ window. below-done (payload.Offer name window))))

accepted_at-below : Ends-below accepted_at
unfolding accepted_at
accepted_at-below =
    below-then (inner_at an_array (last_in 0) BadAcceptance) _ (inner_at-below an_array (last_in 0) BadAcceptance) (λ has.
    below-then (optional_at has BadAcceptance) _ (optional_at-below has BadAcceptance) (λ window. below-done (payload.Accepted window)))

processed_at-below : Ends-below processed_at
unfolding processed_at
processed_at-below =
    below-then (inner_at an_array (only 1) BadProcessed) _ (inner_at-below an_array (only 1) BadProcessed) (λ n.
    below-then (inner_at a_number count_in BadProcessed) _ (inner_at-below a_number count_in BadProcessed) (λ count. below-done (payload.Processed count)))

-- a fault is placed among so many bytes
abbrev pub IsAmong : {A : Type 0} → ℕ → Result A Fault → Type 0
IsAmong total (Ok x) = Unit {0}
IsAmong total (Err Ends) = Unit {0}
IsAmong total (Err (Breaks left reason)) = left ≤ total

ended-among : (reason : Reason) (total : ℕ) (r : Reading Payload) → IsBelow total r → IsAmong total (ended reason r)
ended-among reason total (Err Ends) h = tt
ended-among reason total (Err (Breaks left r)) h = h
ended-among reason total (Ok x) h =
    elim (length x.1 == 0) as (λ t. IsAmong {A = Payload} total (cond t (Ok x.0) (Err (Breaks (length x.1) (spoiled reason (head_of x.1)))))) [ true ↦ tt | false ↦ h ]

pub carried-among : (c : Code) (bytes : List ℕ) → IsAmong (length bytes) (carried c bytes)
unfolding carried
carried-among code.Offer bytes = ended-among BadOffer (length bytes) (offer_at bytes) (offer_at-below.at bytes)
carried-among code.OfferAccepted bytes = ended-among BadAcceptance (length bytes) (accepted_at bytes) (accepted_at-below.at bytes)
carried-among code.Content bytes = tt
carried-among code.ContentWritingCompleted bytes = tt
carried-among code.ChannelTerminated bytes = tt
carried-among code.ContentProcessed bytes = ended-among BadProcessed (length bytes) (processed_at bytes) (processed_at-below.at bytes)

pub plain_carried-among : (c : Code) (bytes : List ℕ) → IsAmong (length bytes) (plain_carried c bytes)
unfolding plain_carried
plain_carried-among code.Offer bytes =
    elim (is_utf8 bytes) as (λ t. IsAmong {A = Payload} (length bytes) (cond t (Ok (payload.Offer bytes None)) (Err (Breaks (length bytes) BadName)))) [ true ↦ tt | false ↦ omega arith ]
plain_carried-among code.OfferAccepted bytes = tt
plain_carried-among code.Content bytes = tt
plain_carried-among code.ContentWritingCompleted bytes = tt
plain_carried-among code.ChannelTerminated bytes = tt
plain_carried-among code.ContentProcessed bytes = tt

-- ---- the bytes of a payload

-- what was taken and what is left are no more than there was; what isn't a payload's bytes is at most 17 of them
abbrev pub IsRun : (most total : ℕ) → Reading (List ℕ) → Type 0
IsRun most total (Ok x) = (length x.0 + length x.1 ≤ total) × (total ≤ length x.0 + length x.1 + 17) × (length x.0 ≤ most)
IsRun most total (Err Ends) = Unit {0}
IsRun most total (Err (Breaks left reason)) = (left ≤ total) × (total ≤ left + 17)

run_of-is : (total n : ℕ) (rest : List ℕ) → length rest ≤ total → total ≤ length rest + 17 → IsRun MAX_PAYLOAD total (run_of total n rest)
run_of-is total n rest a b =
    elim (tested (ltb MAX_PAYLOAD n)) [
      | inl e ↦ rw e (omega arith, omega arith)
      | inr e ↦ elim (tested (ltb (length rest) n)) [
        | inl d ↦ rw (e, d) tt
        | inr d ↦
            let most : n ≤ MAX_PAYLOAD = ltb-false MAX_PAYLOAD n e in
            let long : n ≤ length rest = ltb-false (length rest) n d in
            rw (e, d) (omega (arith, length-take n rest, length-drop n rest), omega (arith, length-take n rest, length-drop n rest), omega (arith, length-take n rest))
      ]
    ]

run-follows : (total : ℕ) (r : Reading ℕ) → IsWithin 1 17 total r → IsRun MAX_PAYLOAD total (follow r (run_of total))
run-follows total (Ok x) h = run_of-is total x.0 x.1 (omega (arith, h.0)) h.1
run-follows total (Err Ends) h = tt
run-follows total (Err (Breaks left reason)) h = h

pub payload_at-is : (present : Bool) (bytes : List ℕ) → IsRun MAX_PAYLOAD (length bytes) (payload_at present bytes)
unfolding payload_at
payload_at-is false bytes = (omega arith, omega arith, omega arith)
payload_at-is true bytes = run-follows (length bytes) (head_at a_bin BadShape bytes) ((head_at-stops a_bin BadShape).at bytes)

placed-within : {A : Type 0} (total : ℕ) (front rest : List ℕ) (r : Result A Fault) → length front + length rest ≤ total → total ≤ length front + length rest + 17 → length front ≤ MAX_PAYLOAD → IsAmong (length front) r → IsWithin 0 (MAX_PAYLOAD + 17) total (placed r rest)
placed-within total front rest (Ok x) a b c h = (omega arith, omega arith)
placed-within total front rest (Err Ends) a b c h = tt
placed-within total front rest (Err (Breaks left reason)) a b c h = (omega (arith, h), omega (arith, h))

run-within : {A : Type 0} (total : ℕ) (r : Reading (List ℕ)) (make : List ℕ → Result A Fault) → ((bytes : List ℕ) → IsAmong (length bytes) (make bytes)) → IsRun MAX_PAYLOAD total r → IsWithin 0 (MAX_PAYLOAD + 17) total (follow r (λ bytes. placed (make bytes)))
run-within total (Ok x) make among h = placed-within total x.0 x.1 (make x.0) h.0 h.1 h.2 (among x.0)
run-within total (Err Ends) make among h = tt
run-within total (Err (Breaks left reason)) make among h = (h.0, omega (arith, h.1))

content_at-stops : (present : Bool) (c : Code) → Stops 0 (MAX_PAYLOAD + 17) (content_at present c)
unfolding content_at
content_at-stops present c = record { at = λ bytes. run-within (length bytes) (payload_at present bytes) (carried c) (carried-among c) (payload_at-is present bytes) }

-- ---- frames

eased : {A : Type 0} (total : ℕ) (r : Reading A) → IsWithin 1 17 total r → IsWithin 0 17 total r
eased total (Ok x) h = (omega (arith, h.0), h.1)
eased total (Err Ends) h = tt
eased total (Err (Breaks left reason)) h = h

origin_at-stops : (v : Version) → Stops 0 17 (origin_at v)
origin_at-stops version.One = record { at = λ bytes. (omega arith, omega arith) }
origin_at-stops version.Two = record { at = λ bytes. (omega arith, omega arith) }
origin_at-stops version.Three = record { at = λ bytes. eased (length bytes) (token_at a_number origin_in BadSource bytes) ((token_at-stops a_number origin_in BadSource).at bytes) }

pub packed_at-stops : (v : Version) → Stops 3 FRAME_BOUND (packed_at v)
unfolding packed_at
packed_at-stops v =
    stops-then 1 17 2 (MAX_PAYLOAD + 4 * 17) (token_at an_array (last_in (elements v)) BadShape) _ (token_at-stops an_array (last_in (elements v)) BadShape) (λ has.
    stops-then 1 17 1 (MAX_PAYLOAD + 3 * 17) (token_at a_number code_in BadCode) _ (token_at-stops a_number code_in BadCode) (λ c.
    stops-then 1 17 0 (MAX_PAYLOAD + 2 * 17) (token_at a_number id_in BadId) _ (token_at-stops a_number id_in BadId) (λ id.
    stops-then 0 17 0 (MAX_PAYLOAD + 17) (origin_at v) _ (origin_at-stops v) (λ source.
    stops-then 0 (MAX_PAYLOAD + 17) 0 0 (content_at has c) _ (content_at-stops has c) (λ content.
    stops-done (record { code = c; id = id; origin = source; payload = content }))))))

-- ---- frames of version 1

placed-below : {A : Type 0} (total : ℕ) (front rest : List ℕ) (r : Result A Fault) → length front + length rest ≡ total → IsAmong (length front) r → IsBelow total (placed r rest)
placed-below total front rest (Ok x) a h = omega arith
placed-below total front rest (Err Ends) a h = tt
placed-below total front rest (Err (Breaks left reason)) a h = omega (arith, h)

cut-below : {A : Type 0} (total : ℕ) (r : Reading (List ℕ)) (make : List ℕ → Result A Fault) → ((bytes : List ℕ) → IsAmong (length bytes) (make bytes)) → IsCut total r → IsBelow total (follow r (λ bytes. placed (make bytes)))
cut-below total (Ok x) make among h = placed-below total x.0 x.1 (make x.0) h (among x.0)
cut-below total (Err Ends) make among h = tt
cut-below total (Err (Breaks left reason)) make among h = absurd h

plain_content_at-below : (c : Code) (size : ℕ) → Ends-below (plain_content_at c size)
unfolding plain_content_at
plain_content_at-below c size = record { at = λ bytes. cut-below (length bytes) (bytes_at size bytes) (plain_carried c) (plain_carried-among c) (bytes_at-is size bytes) }

-- ---- a frame

plain_at-proper : (bytes : List ℕ) → IsProper (length bytes) (plain_at bytes)
unfolding plain_at
plain_at-proper bytes =
    proper-follow (length bytes) (field_at w8 plain_code BadCode bytes) _ ((field_at-stops w8 plain_code BadCode (omega arith)).at bytes) (λ c.
    below-then (field_at w32 plain_id BadId) _ (field_at-below w32 plain_id BadId (omega arith)) (λ id.
    below-then (field_at w16 (λ n. Some n) BadShape) _ (field_at-below w16 (λ n. Some n) BadShape (omega arith)) (λ size.
    below-then (plain_content_at c size) _ (plain_content_at-below c size) (λ content.
    below-done (record { code = c; id = id; origin = origin.ByParity; payload = content })))))

packed_at-proper : (v : Version) (bytes : List ℕ) → IsProper (length bytes) (packed_at v bytes)
packed_at-proper v bytes = proper-from 3 FRAME_BOUND (length bytes) (packed_at v bytes) (omega arith) ((packed_at-stops v).at bytes)

pub frame_at-proper : (v : Version) (bytes : List ℕ) → IsProper (length bytes) (frame_at v bytes)
frame_at-proper version.One bytes = plain_at-proper bytes
frame_at-proper version.Two bytes = packed_at-proper version.Two bytes
frame_at-proper version.Three bytes = packed_at-proper version.Three bytes

-- ---- the front

pub is_front-within : (v : Version) (bytes : List ℕ) → IsFrontWithin (length bytes) (front v bytes)
unfolding front
is_front-within v bytes = front_of-within (length bytes) (frame_at v bytes) (frame_at-proper v bytes)

pub front_within : (v : Version) (bytes : List ℕ) (f : Frame) (size : ℕ) → front v bytes ≡ Whole f size → (0 < size) × (size ≤ length bytes)
front_within v bytes f size e = subst (λ (x : Front). IsFrontWithin (length bytes) x) e (is_front-within v bytes)

pub broken_within : (v : Version) (bytes : List ℕ) (offset : ℕ) (reason : Reason) → front v bytes ≡ Broken offset reason → offset ≤ length bytes
broken_within v bytes offset reason e = subst (λ (x : Front). IsFrontWithin (length bytes) x) e (is_front-within v bytes)

abbrev IsFrontNear : Front → Type 0
IsFrontNear (Whole frame size) = size ≤ FRAME_BOUND
IsFrontNear Short = Unit {0}
IsFrontNear (Broken offset reason) = offset ≤ FRAME_BOUND

front_of-near : (total : ℕ) (r : Reading Frame) → IsWithin 3 FRAME_BOUND total r → IsFrontNear (front_of total r)
front_of-near total (Ok x) h = omega (arith, h.1)
front_of-near total (Err Ends) h = tt
front_of-near total (Err (Breaks left reason)) h = omega (arith, h.1)

is_front-near : (v : Version) (bytes : List ℕ) → is_packed v ≡ true → IsFrontNear (front v bytes)
unfolding front
is_front-near version.One bytes e = absurd cc
is_front-near version.Two bytes e = front_of-near (length bytes) (packed_at version.Two bytes) ((packed_at-stops version.Two).at bytes)
is_front-near version.Three bytes e = front_of-near (length bytes) (packed_at version.Three bytes) ((packed_at-stops version.Three).at bytes)

pub broken_near : (v : Version) (bytes : List ℕ) (offset : ℕ) (reason : Reason) → is_packed v ≡ true → front v bytes ≡ Broken offset reason → offset ≤ FRAME_BOUND
broken_near v bytes offset reason p e = subst (λ (x : Front). IsFrontNear x) e (is_front-near v bytes p)

pub front_near : (v : Version) (bytes : List ℕ) (f : Frame) (size : ℕ) → is_packed v ≡ true → front v bytes ≡ Whole f size → size ≤ FRAME_BOUND
front_near v bytes f size p e = subst (λ (x : Front). IsFrontNear x) e (is_front-near v bytes p)

pub payload_at-whole : (present : Bool) (bytes x rest : List ℕ) → payload_at present bytes ≡ Ok (x, rest) → length x + length rest ≤ length bytes
payload_at-whole present bytes x rest e =
    let p : IsRun MAX_PAYLOAD (length bytes) (Ok (x, rest)) = subst (λ (r : Reading (List ℕ)). IsRun MAX_PAYLOAD (length bytes) r) e (payload_at-is present bytes) in
    p.0

pub carried-left : (c : Code) (bytes : List ℕ) (left : ℕ) (reason : Reason) → carried c bytes ≡ Err (Breaks left reason) → left ≤ length bytes
carried-left c bytes left reason e = subst (λ (r : Result Payload Fault). IsAmong (length bytes) r) e (carried-among c bytes)

pub ruleset runs = (payload_at-whole, carried-left)
