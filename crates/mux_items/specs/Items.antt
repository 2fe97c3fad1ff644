-- What happened at one end. Lists of items have the newest first.
use Rattle.std.specs.Prelude.{ℕ, List, [], ◌∷◌, Bool, true, filter, Option, Some, None, is_none}
use Rattle.wire_base.specs.declared.state.Cause.{Cause}
use Rattle.mux_items.specs.declared.channel.ChannelKey.{ChannelKey}
use Rattle.mux_items.specs.declared.party.Party.{Party}
use Rattle.mux_items.specs.declared.party.Party.TheVariants.{Neither}
use Rattle.mux_items.specs.Bodies.{FrameBody, same_key}

-- the peer's handshake, an accepted call, an applied frame, an applied offer that was rejected, or the end;
-- an offer names the channel that it drew, and a place is that of the frame's first byte
pub data Item : Type 0 where
  Hello : (party : Party) → Item
  DidOffer : (key : ChannelKey) → (name : List ℕ) → (window : ℕ) → Item
  DidAccept : (key : ChannelKey) → (window : ℕ) → Item
  DidWrite : (key : ChannelKey) → (bytes : List ℕ) → Item
  DidRead : (key : ChannelKey) → (max : ℕ) → Item
  DidComplete : (key : ChannelKey) → Item
  DidTerminate : (key : ChannelKey) → Item
  Got : (place : ℕ) → (key : ChannelKey) → (body : FrameBody) → Item
  Rejected : (place : ℕ) → (key : ChannelKey) → (body : FrameBody) → Item
  End : (cause : Cause) → Item

-- whether an item names a channel; the handshake and the end name every channel
abbrev pub names : ChannelKey → Item → Bool
names c (Hello party) = true
names c (DidOffer key name window) = same_key key c
names c (DidAccept key window) = same_key key c
names c (DidWrite key bytes) = same_key key c
names c (DidRead key max) = same_key key c
names c (DidComplete key) = same_key key c
names c (DidTerminate key) = same_key key c
names c (Got place key body) = same_key key c
names c (Rejected place key body) = same_key key c
names c (End cause) = true

-- the items that name a channel
abbrev pub restricted : ChannelKey → List Item → List Item
restricted c items = filter (names c) items

-- why the end has ended, if it has
abbrev pub ended : List Item → Option Cause
ended [] = None
ended (End cause ∷ items) = Some cause
ended (item ∷ items) = ended items

abbrev pub is_running : List Item → Bool
is_running items = is_none (ended items)

-- the peer's handshake, if it was applied
abbrev pub greeting : List Item → Option Party
greeting [] = None
greeting (Hello party ∷ items) = Some party
greeting (item ∷ items) = greeting items

abbrev pub party_or_neither : Option Party → Party
party_or_neither (Some party) = party
party_or_neither None = Neither

abbrev pub party_of : List Item → Party
party_of items = party_or_neither (greeting items)
