-- What is kept of the handles that were adopted from the peer, and what calls make of it.
use Rattle.std.specs.List.{list_any}
use Rattle.std.specs.Prelude.{bytes_eq, ◌≡◌, ◌<◌, ◌≤◌, ℕ, List, [], ◌∷◌, length, take, drop, map, Bool, true, false, ◌==◌, nat_lt, is_some, option_map, slice_get, if◌then◌else◌, Option, Some, None}
use Rattle.wire_base.specs.Tree.{Tree}
use Rattle.wire_base.specs.declared.text.Id.{Id}
use Rattle.rpc_items.specs.Objects.{Offered, offered_in}
use Rattle.rpc_items.specs.PeerHandles.{Adopted, adopted_until, is_until}
use Rattle.marshalled_handles.specs.declared.offered.Offered.{Offered as OfferedObject}
use Rattle.marshalled_handles.specs.declared.peer_handle.PeerHandle.{PeerHandle}

-- an object that the peer offers, as items tell it
abbrev pub offer_of : OfferedObject → Offered
offer_of offered = record { handle = offered.handle; lifetime = offered.lifetime }

-- every number is above this one
abbrev pub AreAbove : (number : ℕ) → List PeerHandle → Type 0
AreAbove number [] = Unit {0}
AreAbove number (h ∷ held) = (number < h.number) × AreAbove number held

-- the numbers rise
abbrev pub AreRising : List PeerHandle → Type 0
AreRising [] = Unit {0}
AreRising (h ∷ held) = AreAbove h.number held × AreRising held

-- handle n
abbrev pub found : ℕ → List PeerHandle → Option PeerHandle
found number [] = None
found number (h ∷ held) = if h.number == number then Some h else found number held

-- whether handle n has ended, where it was adopted
abbrev pub end_in : ℕ → List PeerHandle → Option Bool
end_in number held = option_map (λ h. h.ended) (found number held)

-- the number at this place, from 0
abbrev pub number_at : (place : ℕ) → List PeerHandle → Option ℕ
number_at place held = option_map (λ h. h.number) (slice_get held place)

-- a handle as it is adopted
abbrev pub fresh : (number : ℕ) → Option Id → PeerHandle
fresh number until = record { number = number; until = until; ended = false }

-- one more handle, before those of higher numbers
abbrev pub placed : PeerHandle → List PeerHandle → List PeerHandle
placed new [] = new ∷ []
placed new (h ∷ held) = if nat_lt h.number new.number then h ∷ placed new held else new ∷ (h ∷ held)

-- a handle is adopted, where it wasn't before
abbrev pub adopting : (number : ℕ) → Option Id → List PeerHandle → List PeerHandle
adopting number until held = if is_some (found number held) then held else placed (fresh number until) held

-- a handle is adopted where it is offered so that it can be
abbrev pub adopting_if : (number : ℕ) → Option Adopted → List PeerHandle → List PeerHandle
adopting_if number (Some adopted) held = adopting number adopted.until held
adopting_if number None held = held

-- the object that there may be is adopted, from a request or from another message
abbrev pub adopting_offer : (request : Option Id) → Option Offered → List PeerHandle → List PeerHandle
adopting_offer request (Some offered) held = adopting_if offered.handle (adopted_until request offered.lifetime) held
adopting_offer request None held = held

-- what these values offer is adopted, left to right
abbrev pub adopting_all : (request : Option Id) → List Tree → List PeerHandle → List PeerHandle
adopting_all request [] held = held
adopting_all request (value ∷ values) held = adopting_all request values (adopting_offer request (offered_in value) held)

-- the object of a member is adopted, where its key doesn't stand again behind it
abbrev pub adopting_member : (request : Option Id) → (member : List ℕ × Tree) → (later : List (List ℕ × Tree)) → List PeerHandle → List PeerHandle
adopting_member request member later held = if list_any (λ other. bytes_eq other.0 member.0) later then held else adopting_offer request (offered_in member.1) held

-- what was adopted stays as it was
abbrev pub Keeps : (old new : List PeerHandle) → Type 0
Keeps old new = (number : ℕ) (h : PeerHandle) → found number old ≡ Some h → found number new ≡ Some h

-- a handle ends
abbrev pub ending : PeerHandle → PeerHandle
ending h = record h { ended = true }

-- handle n ends, where it was adopted
abbrev pub released : ℕ → List PeerHandle → List PeerHandle
released number [] = []
released number (h ∷ held) = if h.number == number then ending h ∷ held else h ∷ released number held

-- a handle ends, where it does with the response to this request of the peer
abbrev pub responding : Id → PeerHandle → PeerHandle
responding id h = if is_until h.until id then ending h else h

-- the peer's request of this id is answered
abbrev pub responded : Id → List PeerHandle → List PeerHandle
responded id held = map (responding id) held

-- every handle ends
abbrev pub all_ended : List PeerHandle → List PeerHandle
all_ended held = map ending held

-- every number is below this one
abbrev pub AreBelow : (number : ℕ) → List PeerHandle → Type 0
AreBelow number [] = Unit {0}
AreBelow number (h ∷ held) = (h.number < number) × AreBelow number held

-- handle n is at this place
pub record IsAt (held : List PeerHandle) (number place : ℕ) : Type 0 where
  pub there : number_at place held ≡ Some number

-- handle n would go to this place: lower numbers are before it, and higher ones from it on
pub record IsGapFor (held : List PeerHandle) (number place : ℕ) : Type 0 where
  pub within : place ≤ length held
  pub below : AreBelow number (take place held)
  pub above : AreAbove number (drop place held)
