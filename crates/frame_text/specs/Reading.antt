-- Reading a frame from left to right, token by token, up to the first token that breaks a rule.
use Rattle.std.specs.Prelude.{ℕ, List, [], length, take, drop, ℤ, pos, negsuc, Bool, true, false, ◌&&◌, nat_lt, ◌==◌, if◌then◌else◌, Option, Some, None, Result, Ok, Err}
use Rattle.std.specs.Int.{w8, w16, w32}
use Rattle.std.specs.Str.{is_utf8}
use Rattle.wire_base.specs.declared.limits.TheConstants.{COUNT_LIMIT, MAX_PAYLOAD}
use Rattle.wire_base.specs.Head.{head_of}
use Rattle.wire_base.specs.declared.token.HeadStep.{HeadStep}
use Rattle.wire_base.specs.declared.token.HeadStep.TheVariants as step
use Rattle.wire_base.specs.declared.reason.Reason.{Reason}
use Rattle.wire_base.specs.declared.reason.Reason.TheVariants.{BadCode, BadShape, BadId, BadSource, PayloadTooLong, BadOffer, BadAcceptance, BadProcessed, BadName}
use Rattle.wire_base.specs.declared.frame.Version.{Version}
use Rattle.wire_base.specs.declared.frame.Version.TheVariants as version
use Rattle.wire_base.specs.declared.frame.Code.{Code}
use Rattle.wire_base.specs.declared.frame.Code.TheVariants as code
use Rattle.wire_base.specs.ControlCode.{code_of}
use Rattle.wire_base.specs.declared.frame.Origin.{Origin}
use Rattle.wire_base.specs.declared.frame.Origin.TheVariants as origin
use Rattle.wire_base.specs.declared.frame.Payload.{Payload}
use Rattle.wire_base.specs.declared.frame.Payload.TheVariants as payload
use Rattle.wire_base.specs.declared.frame.Frame.{Frame}
use Rattle.wire_base.specs.declared.reading.Fault.{Fault}
use Rattle.wire_base.specs.declared.reading.Fault.TheVariants.{Ends, Breaks}
pub use Rattle.wire_base.specs.Tokens.{Reading, Reader, follow, ◌>>=◌, done, Fails, Gives, Says, Sort, is_number, is_str, is_bin, is_array, number_in, str_in, bin_in, array_in, a_number, a_str, a_bin, an_array, unfinished, allowed, headed, inside, count_in, last_in, only, placed}
unfoldable pub use Rattle.wire_base.specs.Tokens.{head_at, token_at, inner_at, field_at, bytes_at}
use Rattle.wire_base.specs.Front.{front_of}
use Rattle.frame_text.specs.Codec.{elements}
use Rattle.frame_text.specs.Front.{Front}

-- ---- numbers

abbrev pub code_in : ℤ → Option Code
code_in (pos n) = code_of n
code_in (negsuc k) = None

-- an id: 1 to 2^63 - 1
abbrev pub id_in : ℤ → Option ℕ
id_in (pos n) = if nat_lt 0 n && nat_lt n COUNT_LIMIT then Some n else None
id_in (negsuc k) = None

-- a channel source: 1 or -1
abbrev pub origin_in : ℤ → Option Origin
origin_in (pos n) = if n == 1 then Some origin.Sender else None
origin_in (negsuc k) = if k == 0 then Some origin.Receiver else None

-- ---- payloads of versions 2 and 3

-- a text of so many bytes, whose token begins left bytes before the end
abbrev pub name_of : ℕ → ℕ → Reader (List ℕ)
name_of left n rest =
    if nat_lt (length rest) n then Err (Breaks left BadOffer)
    else if is_utf8 (take n rest) then Ok (take n rest, drop n rest)
    else Err (Breaks left BadName)

unfoldable pub name_at : Reader (List ℕ)
name_at bytes = follow (inner_at a_str (λ n. Some n) BadOffer bytes) (name_of (length bytes))

-- a count where there is one
unfoldable pub optional_at : Bool → Reason → Reader (Option ℕ)
optional_at false reason rest = Ok (None, rest)
optional_at true reason rest = follow (inner_at a_number count_in reason rest) (λ n. done (Some n))

unfoldable pub offer_at : Reader Payload
offer_at = do
  has_window ← inner_at an_array (last_in 1) BadOffer
  name ← name_at
  window ← optional_at has_window BadOffer
  done (payload.Offer name window)

unfoldable pub accepted_at : Reader Payload
accepted_at = do
  has_window ← inner_at an_array (last_in 0) BadAcceptance
  window ← optional_at has_window BadAcceptance
  done (payload.Accepted window)

unfoldable pub processed_at : Reader Payload
processed_at = do
  elements ← inner_at an_array (only 1) BadProcessed
  count ← inner_at a_number count_in BadProcessed
  done (payload.Processed count)

-- what begins a token that no rule allows, or a token where there should be none
abbrev pub spoiled : Reason → HeadStep → Reason
spoiled reason (step.Refused r) = r
spoiled reason (step.Got h n) = reason
spoiled reason step.Short = reason

-- nothing after a payload
abbrev pub ended : Reason → Reading Payload → Result Payload Fault
ended reason (Err fault) = Err fault
ended reason (Ok x) = if length x.1 == 0 then Ok x.0 else Err (Breaks (length x.1) (spoiled reason (head_of x.1)))

-- what a frame of this code carries, by the bytes of its payload
unfoldable pub carried : Code → List ℕ → Result Payload Fault
carried code.Offer bytes = ended BadOffer (offer_at bytes)
carried code.OfferAccepted bytes = ended BadAcceptance (accepted_at bytes)
carried code.Content bytes = Ok (payload.Content bytes)
carried code.ContentWritingCompleted bytes = Ok payload.Nothing
carried code.ChannelTerminated bytes = Ok payload.Nothing
carried code.ContentProcessed bytes = ended BadProcessed (processed_at bytes)

-- the bytes of a payload's token, which begins left bytes before the end
abbrev pub run_of : ℕ → ℕ → Reader (List ℕ)
run_of left n rest =
    if nat_lt MAX_PAYLOAD n then Err (Breaks left PayloadTooLong)
    else if nat_lt (length rest) n then Err Ends
    else Ok (take n rest, drop n rest)

-- a payload's bytes, which are none where its element is left out
unfoldable pub payload_at : Bool → Reader (List ℕ)
payload_at false rest = Ok ([], rest)
payload_at true rest = follow (head_at a_bin BadShape rest) (run_of (length rest))

-- what a frame of this code carries
unfoldable pub content_at : Bool → Code → Reader Payload
content_at has_payload code = do
  bytes ← payload_at has_payload
  placed (carried code bytes)

-- ---- frames of versions 2 and 3

abbrev pub origin_at : Version → Reader Origin
origin_at version.Three = token_at a_number origin_in BadSource
origin_at v = done origin.ByParity

unfoldable pub packed_at : Version → Reader Frame
packed_at v = do
  has_payload ← token_at an_array (last_in (elements v)) BadShape
  code ← token_at a_number code_in BadCode
  id ← token_at a_number id_in BadId
  source ← origin_at v
  content ← content_at has_payload code
  done (record { code = code; id = id; origin = source; payload = content })

-- ---- frames of version 1

-- version 1 has no acknowledgement
abbrev pub plain_of : Option Code → Option Code
plain_of (Some code.ContentProcessed) = None
plain_of c = c

-- a code of version 1
abbrev pub plain_code : ℕ → Option Code
plain_code n = plain_of (code_of n)

abbrev pub plain_id : ℕ → Option ℕ
plain_id n = if n == 0 then None else Some n

unfoldable pub plain_carried : Code → List ℕ → Result Payload Fault
plain_carried code.Offer bytes = if is_utf8 bytes then Ok (payload.Offer bytes None) else Err (Breaks (length bytes) BadName)
plain_carried code.OfferAccepted bytes = Ok (payload.Accepted None)
plain_carried code.Content bytes = Ok (payload.Content bytes)
plain_carried code.ContentWritingCompleted bytes = Ok payload.Nothing
plain_carried code.ChannelTerminated bytes = Ok payload.Nothing
plain_carried code.ContentProcessed bytes = Ok payload.Nothing

unfoldable pub plain_content_at : Code → ℕ → Reader Payload
plain_content_at code size = do
  bytes ← bytes_at size
  placed (plain_carried code bytes)

unfoldable pub plain_at : Reader Frame
plain_at = do
  code ← field_at w8 plain_code BadCode
  id ← field_at w32 plain_id BadId
  size ← field_at w16 (λ n. Some n) BadShape
  content ← plain_content_at code size
  done (record { code = code; id = id; origin = origin.ByParity; payload = content })

-- ---- the front

abbrev pub frame_at : Version → Reader Frame
frame_at version.One = plain_at
frame_at v = packed_at v

-- what stands at the front of these bytes: a frame, too few bytes to tell, or a token that breaks a rule
unfoldable pub front : Version → List ℕ → Front
front v bytes = front_of (length bytes) (frame_at v bytes)
