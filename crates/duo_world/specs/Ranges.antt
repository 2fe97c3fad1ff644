-- What the frames of an item say is in its range, and tells its channel.
use Rattle.std.specs.Prelude.{◌≡◌, ◌<◌, ◌≤◌, ℕ, min, List, [], ◌∷◌, length, true, false, Option, Some, IsUtf8}
use Rattle.std.specs.Str.{is_utf8, bytes_eq}
use Rattle.wire_base.specs.declared.limits.TheConstants.{COUNT_LIMIT}
use Rattle.frame_text.specs.Frames.{fits_id}
use Rattle.mux_items.specs.declared.call.Call.{Call as MuxCall}
use Rattle.mux_items.specs.declared.call.Call.TheVariants as mux_call
use Rattle.mux_items.specs.declared.channel.ChannelKey.{ChannelKey}
use Rattle.mux_items.specs.declared.party.Party.{Party}
use Rattle.mux_items.specs.Bodies.{has_parity, is_three}
use Rattle.mux_items.specs.Items.{Item, Hello, DidOffer, DidAccept, DidWrite, DidRead, DidComplete, DidTerminate, Got, Rejected, End}
use Rattle.mux_items.specs.Limits.{longest_name}
use Rattle.mux_items.specs.Lists.{unread}
use Rattle.mux_items.specs.Parties.{party_by}
use Rattle.mux_run.specs.Run.{SideTerms}
use Rattle.endpoint_items.specs.declared.call.Call.{Call}
use Rattle.endpoint_items.specs.Asked.{made_by}
use Rattle.endpoint_items.specs.Calls.{EndCall, OfMux}

-- an id of the version's range; in versions 1 and 2, which write no channel source, a side's own ids have its party's parity
pub record IsKeyInRange (w : SideTerms) (key : ChannelKey) : Type 0 where
  pub id : fits_id w.version key.id ≡ true
  pub source : is_three w.version ≡ false → key.own ≡ has_parity (party_by w.own w.peer) key.id

-- a window or a count is 0 to 2^63 - 1
abbrev pub IsNumberInRange : ℕ → Type 0
IsNumberInRange n = n < COUNT_LIMIT

-- a name is UTF-8, and not too long
pub record IsNameInRange (name : List ℕ) : Type 0 where
  pub utf8 : is_utf8 name ≡ true
  pub short : length name ≤ longest_name

-- a handshake that was applied tells the party of two nonces that differ
pub record IsPartyOfNonces (w : SideTerms) (party : Party) : Type 0 where
  pub differ : bytes_eq w.own w.peer ≡ false
  pub party_is : party ≡ party_by w.own w.peer

-- of a read the number that it acknowledges counts, not its maximum
abbrev pub IsInRange : SideTerms → Item → List Item → Type 0
IsInRange w (Hello party) items = IsPartyOfNonces w party
IsInRange w (DidOffer key name size) items = IsKeyInRange w key × IsNameInRange name × IsNumberInRange size
IsInRange w (DidAccept key size) items = IsKeyInRange w key × IsNumberInRange size
IsInRange w (DidWrite key bytes) items = IsKeyInRange w key
IsInRange w (DidRead key max) items = IsKeyInRange w key × IsNumberInRange (min max (length (unread w.version key items)))
IsInRange w (DidComplete key) items = IsKeyInRange w key
IsInRange w (DidTerminate key) items = IsKeyInRange w key
IsInRange w (Got place key body) items = IsKeyInRange w key
IsInRange w (Rejected place key body) items = IsKeyInRange w key
IsInRange w (End cause) items = Unit {0}

-- so is each item of a side
abbrev pub AreInRange : SideTerms → List Item → Type 0
AreInRange w [] = Unit {0}
AreInRange w (item ∷ items) = IsInRange w item items × AreInRange w items

-- what the types of a call's parts say: a name is UTF-8, and windows and maxima are in range
abbrev pub IsMuxCallInRange : MuxCall → Type 0
IsMuxCallInRange (mux_call.Offer name size) = IsUtf8 name × IsNumberInRange size
IsMuxCallInRange (mux_call.Accept c size) = IsNumberInRange size
IsMuxCallInRange (mux_call.Write c bytes) = Unit {0}
IsMuxCallInRange (mux_call.Read c max) = IsNumberInRange max
IsMuxCallInRange (mux_call.Complete c) = Unit {0}
IsMuxCallInRange (mux_call.Terminate c) = Unit {0}

abbrev pub IsMadeInRange : Option EndCall → Type 0
IsMadeInRange (Some (OfMux c)) = IsMuxCallInRange c
IsMadeInRange made = Unit {0}

abbrev pub IsCallInRange : Call → Type 0
IsCallInRange c = IsMadeInRange (made_by c)
