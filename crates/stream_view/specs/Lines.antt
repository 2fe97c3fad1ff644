-- The lines of a view.
use Rattle.std.specs.Prelude.{ℕ, ◌-◌, ◌==◌, List, [], ◌++◌, length, drop, Option, Some, None, if◌then◌else◌, codes}
use Rattle.std.specs.Fmt.{decimal}
use Rattle.hex.specs.Hex.{encode_lower}
use Rattle.json.specs.Print.{quoted}
use Rattle.wire_base.specs.Numbers.{reason_number, reason_name}
use Rattle.wire_base.specs.declared.reason.Reason.{Reason}
use Rattle.wire_base.specs.declared.frame.Version.{Version}
use Rattle.wire_base.specs.declared.frame.Version.TheVariants as version
use Rattle.wire_base.specs.declared.frame.Code.{Code}
use Rattle.wire_base.specs.declared.frame.Code.TheVariants as code
use Rattle.wire_base.specs.declared.frame.Origin.{Origin}
use Rattle.wire_base.specs.declared.frame.Origin.TheVariants as origin
use Rattle.wire_base.specs.declared.frame.Payload.{Payload}
use Rattle.wire_base.specs.declared.frame.Payload.TheVariants as payload
use Rattle.wire_base.specs.declared.frame.Frame.{Frame}
use Rattle.mux_items.specs.Limits.{nonce_size}
use Rattle.text_words.specs.Written.{hyphen, bytes_word, line_feed}

-- the name of a code
abbrev pub code_name : Code → List ℕ
code_name code.Offer = codes "Offer"
code_name code.OfferAccepted = codes "OfferAccepted"
code_name code.Content = codes "Content"
code_name code.ContentWritingCompleted = codes "ContentWritingCompleted"
code_name code.ChannelTerminated = codes "ChannelTerminated"
code_name code.ContentProcessed = codes "ContentProcessed"

-- who offered the channel, and the hyphen where the frame doesn't say it
abbrev pub origin_word : Origin → List ℕ
origin_word origin.Sender = codes "sender"
origin_word origin.Receiver = codes "receiver"
origin_word origin.ByParity = hyphen

-- a window, and the hyphen for none
abbrev pub window_word : Option ℕ → List ℕ
window_word None = hyphen
window_word (Some window) = decimal window

-- what a frame carries, each word behind a space: a name as a JSON string, bytes in hex
abbrev pub payload_words : Payload → List ℕ
payload_words (payload.Offer name window) = codes " " ++ quoted name ++ codes " " ++ window_word window
payload_words (payload.Accepted window) = codes " " ++ window_word window
payload_words (payload.Content bytes) = codes " " ++ bytes_word bytes
payload_words payload.Nothing = []
payload_words (payload.Processed count) = codes " " ++ decimal count

-- a frame whose first byte stands at this place
abbrev pub frame_line : (place : ℕ) → Frame → List ℕ
frame_line place f =
    decimal place ++ codes " " ++ code_name f.code ++ codes " " ++ decimal f.id ++ codes " " ++ origin_word f.origin
    ++ payload_words f.payload ++ line_feed

-- the nonce of a handshake, which it ends with
abbrev pub nonce_of : (handshake : List ℕ) → List ℕ
nonce_of handshake = drop (length handshake - nonce_size) handshake

-- the handshake, which version 3 doesn't have
abbrev pub hello_line : Version → (handshake : List ℕ) → List ℕ
hello_line version.Three handshake = []
hello_line v handshake = codes "0 Hello " ++ encode_lower (nonce_of handshake) ++ line_feed

-- so many bytes from this place on that are less than a frame or a handshake, if there are any
abbrev pub rest_line : (place count : ℕ) → List ℕ
rest_line place count = if count == 0 then [] else codes "rest " ++ decimal place ++ codes " " ++ decimal count ++ line_feed

-- the token at this place breaks a rule
abbrev pub refused_line : (place : ℕ) → Reason → List ℕ
refused_line place reason = codes "refused " ++ decimal place ++ codes " " ++ decimal (reason_number reason) ++ codes " " ++ reason_name reason ++ line_feed
