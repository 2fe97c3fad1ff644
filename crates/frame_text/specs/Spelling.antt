-- What bytes spell a frame, apart from their reading. Every width of every token is a spelling.
use Rattle.std.specs.Prelude.{◌≡◌, ℕ, ◌+◌, ◌<◌, ◌≤◌, List, [], ◌∷◌, ◌++◌, length, ℤ, pos, negsuc, Bool, true, false, if◌then◌else◌, Option, Some, None, slice_index}
use Rattle.std.specs.Int.{w16, w32, from_be_bytes}
use Rattle.std.specs.Str.{is_utf8}
use Rattle.wire_base.specs.declared.limits.TheConstants.{COUNT_LIMIT, MAX_PAYLOAD}
pub use Rattle.wire_base.specs.Head.{IsHead}
use Rattle.wire_base.specs.declared.token.TokenHead.TheVariants as token
use Rattle.wire_base.specs.declared.reason.Reason.{Reason}
use Rattle.wire_base.specs.declared.frame.Version.{Version}
use Rattle.wire_base.specs.declared.frame.Version.TheVariants as version
use Rattle.wire_base.specs.declared.frame.Code.{Code}
use Rattle.wire_base.specs.declared.frame.Code.TheVariants as code
use Rattle.wire_base.specs.declared.frame.Origin.{Origin}
use Rattle.wire_base.specs.declared.frame.Origin.TheVariants as origin
use Rattle.wire_base.specs.declared.frame.Payload.{Payload}
use Rattle.wire_base.specs.declared.frame.Payload.TheVariants as payload
use Rattle.wire_base.specs.declared.frame.Frame.{Frame}
use Rattle.frame_text.specs.Codec.{elements}
use Rattle.frame_text.specs.Frames.{code_number}
use Rattle.frame_text.specs.Rules.{first_refusal}

-- each is a byte
abbrev pub AreBytes : List ℕ → Type 0
AreBytes bytes = (i : ℕ) → slice_index bytes i < 256

-- a whole number as a token
abbrev pub IsNumber : ℤ → List ℕ → Type 0
IsNumber z b = IsHead (token.Whole z) b

-- a window or a count as a token, where there is one
abbrev pub IsOptional : Option ℕ → List ℕ → Type 0
IsOptional None b = b ≡ []
IsOptional (Some n) b = IsNumber (pos n) b × (n < COUNT_LIMIT)

-- how many elements an array has with what may be left out of it
abbrev pub with_optional : ℕ → Option ℕ → ℕ
with_optional least None = least
with_optional least (Some n) = least + 1

-- a text as a token: a head and its bytes
pub record IsName (name b : List ℕ) : Type 0 where
  pub head : List ℕ
  pub is_head : IsHead (token.Str (length name)) head
  pub utf8 : is_utf8 name ≡ true
  pub parts : b ≡ head ++ name

-- the payload of an offer: an array of a name, or of a name and a window
pub record IsOffer (name : List ℕ) (window : Option ℕ) (bytes : List ℕ) : Type 0 where
  pub array : List ℕ
  pub first : List ℕ
  pub second : List ℕ
  pub is_array : IsHead (token.Array (with_optional 1 window)) array
  pub is_name : IsName name first
  pub is_window : IsOptional window second
  pub parts : bytes ≡ array ++ (first ++ second)

-- the payload of an acceptance: an empty array, or one of a window
pub record IsAcceptance (window : Option ℕ) (bytes : List ℕ) : Type 0 where
  pub array : List ℕ
  pub first : List ℕ
  pub is_array : IsHead (token.Array (with_optional 0 window)) array
  pub is_window : IsOptional window first
  pub parts : bytes ≡ array ++ first

-- the payload of an acknowledgement: an array of a count
pub record IsAcknowledgement (count : ℕ) (bytes : List ℕ) : Type 0 where
  pub array : List ℕ
  pub first : List ℕ
  pub is_array : IsHead (token.Array 1) array
  pub is_count : IsOptional (Some count) first
  pub parts : bytes ≡ array ++ first

-- these bytes are a payload that a frame of this code carries so
abbrev pub Carries : Code → Payload → List ℕ → Type 0
Carries code.Offer (payload.Offer name window) bytes = IsOffer name window bytes
Carries code.OfferAccepted (payload.Accepted window) bytes = IsAcceptance window bytes
Carries code.Content (payload.Content content) bytes = bytes ≡ content
Carries code.ContentWritingCompleted payload.Nothing bytes = Unit {0}
Carries code.ChannelTerminated payload.Nothing bytes = Unit {0}
Carries code.ContentProcessed (payload.Processed count) bytes = IsAcknowledgement count bytes
Carries c p bytes = ⊥

-- who offered the channel, as a token: 1 or -1, and none in version 2
abbrev pub IsSource : Version → Origin → List ℕ → Type 0
IsSource version.Three origin.Sender b = IsNumber (pos 1) b
IsSource version.Three origin.Receiver b = IsNumber (negsuc 0) b
IsSource version.Three origin.ByParity b = ⊥
IsSource v origin.ByParity b = b ≡ []
IsSource v o b = ⊥

-- bytes as a bin, of no more than a payload may have
pub record IsBin (bytes b : List ℕ) : Type 0 where
  pub head : List ℕ
  pub is_head : IsHead (token.Bin (length bytes)) head
  pub most : length bytes ≤ MAX_PAYLOAD
  pub parts : b ≡ head ++ bytes

-- a payload's bytes as the last element, which may be left out where there are none
abbrev pub IsElement : Bool → List ℕ → List ℕ → Type 0
IsElement false bytes b = (bytes ≡ []) × (b ≡ [])
IsElement true bytes b = IsBin bytes b

-- a frame of version 2 or 3: an array of its code, its id, in version 3 its source, and its payload
pub record PackedFrameIs (v : Version) (f : Frame) (b : List ℕ) : Type 0 where
  pub has_payload : Bool
  pub array : List ℕ
  pub first : List ℕ
  pub second : List ℕ
  pub third : List ℕ
  pub last : List ℕ
  pub bytes : List ℕ
  pub is_array : IsHead (token.Array (if has_payload then elements v + 1 else elements v)) array
  pub is_code : IsNumber (pos (code_number f.code)) first
  pub is_id : IsNumber (pos f.id) second
  pub some_id : 0 < f.id
  pub id_below : f.id < COUNT_LIMIT
  pub is_source : IsSource v f.origin third
  pub is_payload : IsElement has_payload bytes last
  pub carries : Carries f.code f.payload bytes
  pub parts : b ≡ array ++ (first ++ (second ++ (third ++ last)))

-- these bytes are the payload of a frame of version 1
abbrev pub CarriesPlain : Code → Payload → List ℕ → Type 0
CarriesPlain code.Offer (payload.Offer name None) bytes = (bytes ≡ name) × (is_utf8 name ≡ true)
CarriesPlain code.OfferAccepted (payload.Accepted None) bytes = Unit {0}
CarriesPlain code.Content (payload.Content content) bytes = bytes ≡ content
CarriesPlain code.ContentWritingCompleted payload.Nothing bytes = Unit {0}
CarriesPlain code.ChannelTerminated payload.Nothing bytes = Unit {0}
CarriesPlain c p bytes = ⊥

-- a frame of version 1: a byte of its code, four of its id, two of its payload's length, and the payload
pub record PlainFrameIs (f : Frame) (b : List ℕ) : Type 0 where
  pub id : List ℕ
  pub size : List ℕ
  pub bytes : List ℕ
  pub is_id : from_be_bytes w32 id ≡ f.id
  pub id_len : length id ≡ 4
  pub some_id : 0 < f.id
  pub is_size : from_be_bytes w16 size ≡ length bytes
  pub size_len : length size ≡ 2
  pub is_origin : f.origin ≡ origin.ByParity
  pub carries : CarriesPlain f.code f.payload bytes
  pub parts : b ≡ code_number f.code ∷ (id ++ (size ++ bytes))

-- these bytes, all of them, spell the frame
abbrev pub FrameIs : Version → Frame → List ℕ → Type 0
FrameIs version.One f b = PlainFrameIs f b
FrameIs version.Two f b = PackedFrameIs version.Two f b
FrameIs version.Three f b = PackedFrameIs version.Three f b

-- ---- streams

-- no spelling of a frame begins these bytes
abbrev pub BeginsNone : Version → List ℕ → Type 0
BeginsNone v bytes = (f : Frame) (b more : List ℕ) → FrameIs v f b → bytes ≡ b ++ more → ⊥

-- a stream whose first byte stands at a place is these frames, each with the place of its own first byte, and then a rest that no spelling begins
abbrev pub AreFrames : Version → (at : ℕ) → (stream : List ℕ) → List (ℕ × Frame) → (rest : List ℕ) → Type 0
AreFrames v at stream [] rest = (stream ≡ rest) × BeginsNone v rest
AreFrames v at stream (x ∷ xs) rest = (x.0 ≡ at) × (b more : List ℕ) × FrameIs v x.1 b × (stream ≡ b ++ more) × AreFrames v (at + length b) more xs rest

-- after its frames the stream breaks a rule, first by the token at this place
pub record IsBrokenStream (v : Version) (at : ℕ) (stream : List ℕ) (place : ℕ) (reason : Reason) : Type 0 where
  pub frames : List (ℕ × Frame)
  pub rest : List ℕ
  pub offset : ℕ
  pub are_frames : AreFrames v at stream frames rest
  pub broken : first_refusal v rest ≡ Some (offset, reason)
  pub place_is : place + length rest ≡ at + length stream + offset
