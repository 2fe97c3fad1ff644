-- The texts of frames, as an end writes them. From the multiplexing stream's protocol.
use Rattle.std.specs.Prelude.{ℕ, ◌+◌, List, [], ◌∷◌, ◌++◌, length, Bool, true, false, ◌&&◌, nat_lt, nat_le, if◌then◌else◌, Option, Some, None, is_none}
use Rattle.std.specs.List.{flat_map}
use Rattle.std.specs.Str.{is_utf8}
use Rattle.std.specs.Int.{w16, w32, to_be_bytes}
use Rattle.wire_base.specs.declared.frame.Version.{Version}
use Rattle.wire_base.specs.declared.frame.Version.TheVariants as version
use Rattle.wire_base.specs.declared.frame.Code.{Code}
use Rattle.wire_base.specs.declared.frame.Code.TheVariants as code
use Rattle.wire_base.specs.declared.frame.Origin.{Origin}
use Rattle.wire_base.specs.declared.frame.Origin.TheVariants as origin
use Rattle.wire_base.specs.declared.frame.Payload.{Payload}
use Rattle.wire_base.specs.declared.frame.Payload.TheVariants as payload
use Rattle.wire_base.specs.declared.frame.Frame.{Frame}
use Rattle.wire_base.specs.declared.limits.TheConstants.{COUNT_LIMIT, MAX_PAYLOAD, MAX_PLAIN_PAYLOAD, PLAIN_ID_LIMIT}
pub use Rattle.wire_base.specs.ControlCode.{code_number}
use Rattle.wire_base.specs.Shortest.{unsigned_text, str_head, bin_head, array_head}

-- the channel source: 1 where the sender offered the channel, -1 where the receiver did
abbrev pub origin_text : Origin → List ℕ
origin_text origin.Sender = 0x01 ∷ []
origin_text origin.Receiver = 0xff ∷ []
origin_text origin.ByParity = []

-- a text with its head
abbrev pub str_text : List ℕ → List ℕ
str_text name = str_head (length name) ++ name

-- the bytes of a payload in versions 2 and 3
abbrev pub payload_text : Payload → List ℕ
payload_text (payload.Offer name None) = array_head 1 ++ str_text name
payload_text (payload.Offer name (Some window)) = array_head 2 ++ str_text name ++ unsigned_text window
payload_text (payload.Accepted None) = array_head 0
payload_text (payload.Accepted (Some window)) = array_head 1 ++ unsigned_text window
payload_text (payload.Content bytes) = bytes
payload_text payload.Nothing = []
payload_text (payload.Processed count) = array_head 1 ++ unsigned_text count

-- the bytes of a payload in version 1
abbrev pub plain_payload : Payload → List ℕ
plain_payload (payload.Offer name window) = name
plain_payload (payload.Accepted window) = []
plain_payload (payload.Content bytes) = bytes
plain_payload payload.Nothing = []
plain_payload (payload.Processed count) = []

abbrev pub is_empty : List ℕ → Bool
is_empty [] = true
is_empty (byte ∷ bytes) = false

-- a payload as the last element of a frame's array, left out where it is empty
abbrev pub payload_element : List ℕ → List ℕ
payload_element bytes = if is_empty bytes then [] else bin_head (length bytes) ++ bytes

abbrev pub packed_text : (elements : ℕ) → Frame → List ℕ
packed_text elements f =
    let bytes = payload_text f.payload in
    array_head (if is_empty bytes then elements else elements + 1)
    ++ unsigned_text (code_number f.code) ++ unsigned_text f.id ++ origin_text f.origin ++ payload_element bytes

-- the shortest spelling of a frame
abbrev pub text : Version → Frame → List ℕ
text version.One f = code_number f.code ∷ to_be_bytes w32 f.id ++ to_be_bytes w16 (length (plain_payload f.payload)) ++ plain_payload f.payload
text version.Two f = packed_text 2 f
text version.Three f = packed_text 3 f

abbrev pub texts : Version → List Frame → List ℕ
texts v frames = flat_map (text v) frames

-- a window or a count: 0 to 2^63 - 1
abbrev pub is_count : Option ℕ → Bool
is_count None = true
is_count (Some n) = nat_lt n COUNT_LIMIT

-- a payload that a frame of this code may have
abbrev pub fits_code : Version → Code → Payload → Bool
fits_code version.One code.Offer (payload.Offer name window) = is_utf8 name && is_none window
fits_code v code.Offer (payload.Offer name window) = is_utf8 name && is_count window
fits_code version.One code.OfferAccepted (payload.Accepted window) = is_none window
fits_code v code.OfferAccepted (payload.Accepted window) = is_count window
fits_code v code.Content (payload.Content bytes) = true
fits_code v code.ContentWritingCompleted payload.Nothing = true
fits_code v code.ChannelTerminated payload.Nothing = true
fits_code version.One code.ContentProcessed (payload.Processed count) = false
fits_code v code.ContentProcessed (payload.Processed count) = is_count (Some count)
fits_code v c p = false

abbrev pub fits_id : Version → ℕ → Bool
fits_id version.One id = nat_lt 0 id && nat_lt id PLAIN_ID_LIMIT
fits_id v id = nat_lt 0 id && nat_lt id COUNT_LIMIT

abbrev pub fits_origin : Version → Origin → Bool
fits_origin version.Three origin.ByParity = false
fits_origin version.Three o = true
fits_origin v origin.ByParity = true
fits_origin v o = false

abbrev pub fits_length : Version → Payload → Bool
fits_length version.One p = nat_le (length (plain_payload p)) MAX_PLAIN_PAYLOAD
fits_length v p = nat_le (length (payload_text p)) MAX_PAYLOAD

-- whether a frame has a spelling
abbrev pub fits : Version → Frame → Bool
fits v f = fits_code v f.code f.payload && fits_id v f.id && fits_origin v f.origin && fits_length v f.payload
