-- What stands after a call, by what the call made of the handles.
use Rattle.std.proofs.Common.{◌≡◌, ℕ, List, ◌∷◌, sym, subst, Option, Some}
use Rattle.wire_base.specs.Tree.{Tree}
use Rattle.wire_base.specs.declared.state.Cause.{Cause}
use Rattle.wire_base.specs.declared.text.Id.{Id}
use Rattle.rpc_items.specs.declared.calls.Answer.{Answer}
use Rattle.rpc_items.specs.declared.calls.Outcome.{Outcome}
use Rattle.rpc_items.specs.declared.messages.Message.{Message}
use Rattle.rpc_items.specs.Items.{RpcItem, Did, Got, End, Release, Respond}
use Rattle.rpc_items.specs.Keys.{own_key, peer_key}
use Rattle.rpc_items.specs.Outcomes.{response_in}
use Rattle.marshalled_handles.specs.declared.own_handle.OwnHandle.{OwnHandle}
use Rattle.marshalled_handles.specs.declared.peer_handle.PeerHandle.{PeerHandle}
use Rattle.marshalled_handles.specs.Holder.{adopting, adopting_all, responded}
use Rattle.marshalled_handles.specs.Holder as holder
use Rattle.marshalled_handles.specs.Owner.{answered}
use Rattle.marshalled_handles.specs.Owner as owner
use Rattle.marshalled_handles.specs.Stands.{HolderStands, IsRelease, Offers, OffersOne, OwnerStands}
use Rattle.marshalled_handles.proofs.Holding.{all_hold, ended_holds, let_go_holds, one_holds, release_holds, responded_holds}
use Rattle.marshalled_handles.proofs.Owning.{answered_stands, ended_stands, let_go_stands, release_stands}

-- own handles

pub own_let_go_after : (number : ℕ) (old new : List OwnHandle) (items : List RpcItem) → new ≡ owner.released number old → OwnerStands old items → OwnerStands new (Did (Release (own_key number)) ∷ items)
own_let_go_after number old new items e s = subst (λ (hs : List OwnHandle). OwnerStands hs (Did (Release (own_key number)) ∷ items)) (sym e) (let_go_stands number old items s)

pub own_released_after : (number place : ℕ) (message : Message) (old new : List OwnHandle) (items : List RpcItem) → new ≡ owner.released number old → IsRelease (own_key number) message → OwnerStands old items → OwnerStands new (Got place message ∷ items)
own_released_after number place message old new items e is s = subst (λ (hs : List OwnHandle). OwnerStands hs (Got place message ∷ items)) (sym e) (release_stands number place message old items is s)

pub answered_after : (request place : ℕ) (message : Message) (outcome : Outcome) (old new : List OwnHandle) (items : List RpcItem) → new ≡ answered request old → response_in request message ≡ Some outcome → OwnerStands old items → OwnerStands new (Got place message ∷ items)
answered_after request place message outcome old new items e says s = subst (λ (hs : List OwnHandle). OwnerStands hs (Got place message ∷ items)) (sym e) (answered_stands request place message outcome old items says s)

pub own_ended_after : (cause : Cause) (old new : List OwnHandle) (items : List RpcItem) → new ≡ owner.all_ended old → OwnerStands old items → OwnerStands new (End cause ∷ items)
own_ended_after cause old new items e s = subst (λ (hs : List OwnHandle). OwnerStands hs (End cause ∷ items)) (sym e) (ended_stands cause old items s)

-- handles of the peer

pub adopted_after : (number : ℕ) (until : Option Id) (place : ℕ) (message : Message) (old new : List PeerHandle) (items : List RpcItem) → new ≡ adopting number until old → OffersOne number until message items → HolderStands old items → HolderStands new (Got place message ∷ items)
adopted_after number until place message old new items e offers s = subst (λ (hs : List PeerHandle). HolderStands hs (Got place message ∷ items)) (sym e) (one_holds number until place message old items offers s)

pub all_adopted_after : (request : Option Id) (values : List Tree) (place : ℕ) (message : Message) (old new : List PeerHandle) (items : List RpcItem) → new ≡ adopting_all request values old → Offers request values message items → HolderStands old items → HolderStands new (Got place message ∷ items)
all_adopted_after request values place message old new items e offers s = subst (λ (hs : List PeerHandle). HolderStands hs (Got place message ∷ items)) (sym e) (all_hold request values place message old items offers s)

pub peer_let_go_after : (number : ℕ) (old new : List PeerHandle) (items : List RpcItem) → new ≡ holder.released number old → HolderStands old items → HolderStands new (Did (Release (peer_key number)) ∷ items)
peer_let_go_after number old new items e s = subst (λ (hs : List PeerHandle). HolderStands hs (Did (Release (peer_key number)) ∷ items)) (sym e) (let_go_holds number old items s)

pub peer_released_after : (number place : ℕ) (message : Message) (old new : List PeerHandle) (items : List RpcItem) → new ≡ holder.released number old → IsRelease (peer_key number) message → HolderStands old items → HolderStands new (Got place message ∷ items)
peer_released_after number place message old new items e is s = subst (λ (hs : List PeerHandle). HolderStands hs (Got place message ∷ items)) (sym e) (release_holds number place message old items is s)

pub responded_after : (id : Id) (response : Answer) (old new : List PeerHandle) (items : List RpcItem) → new ≡ responded id old → HolderStands old items → HolderStands new (Did (Respond id response) ∷ items)
responded_after id response old new items e s = subst (λ (hs : List PeerHandle). HolderStands hs (Did (Respond id response) ∷ items)) (sym e) (responded_holds id response old items s)

pub peer_ended_after : (cause : Cause) (old new : List PeerHandle) (items : List RpcItem) → new ≡ holder.all_ended old → HolderStands old items → HolderStands new (End cause ∷ items)
peer_ended_after cause old new items e s = subst (λ (hs : List PeerHandle). HolderStands hs (End cause ∷ items)) (sym e) (ended_holds cause old items s)
