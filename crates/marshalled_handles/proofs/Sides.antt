-- Handles of both sides stand for the items again after a release.
use Rattle.std.specs.Prelude.{Bool, true, false}
use Rattle.std.proofs.Common.{◌≡◌, ℕ, List, ◌∷◌, sym, ◌∙◌, ap, subst}
use Rattle.rpc_items.specs.declared.calls.HandleKey.{HandleKey}
use Rattle.rpc_items.specs.declared.messages.Message.{Message}
use Rattle.rpc_items.specs.Handles.{is_live}
use Rattle.rpc_items.specs.Items.{RpcItem, Did, Got, Release}
use Rattle.rpc_items.specs.Refusals.{handle_refusal}
use Rattle.marshalled_handles.specs.declared.own_handle.OwnHandle.{OwnHandle}
use Rattle.marshalled_handles.specs.declared.peer_handle.PeerHandle.{PeerHandle}
use Rattle.marshalled_handles.specs.Both.{end_in, holder_released, owner_released}
use Rattle.marshalled_handles.specs.Replies.{seen_living, seen_refusal}
use Rattle.marshalled_handles.specs.Stands.{HolderStands, IsRelease, OwnerStands, end_after}
use Rattle.marshalled_handles.proofs.Holding.{let_go_holds, release_holds}
use Rattle.marshalled_handles.proofs.Owning.{let_go_stands, release_stands}
use Rattle.marshalled_handles.proofs.Passing.{let_go_leaves_holder, let_go_leaves_owner, release_leaves_holder, release_leaves_owner}
use Rattle.marshalled_handles.proofs.Reading.{held_as, lives_as, made_as, refused_as}

-- a handle of this side, or of the other
abbrev key_of : (number : ℕ) → (own : Bool) → HandleKey
key_of number own = record { number = number; own = own }

module _ (handles : List OwnHandle) (held : List PeerHandle) (items : List RpcItem) (s : OwnerStands handles items) (t : HolderStands held items) where
  end_by : (number : ℕ) (own : Bool) → end_in (key_of number own) handles held ≡ end_after (key_of number own) items
  end_by number true = made_as number handles items s
  end_by number false = held_as number held items t

  pub refused : (key : HandleKey) → seen_refusal (end_in key handles held) ≡ handle_refusal key items
  refused key = ap seen_refusal (end_by key.number key.own) ∙ refused_as key items

  pub living : (key : HandleKey) → seen_living (end_in key handles held) ≡ is_live key items
  living key = ap seen_living (end_by key.number key.own) ∙ lives_as key items

-- a release here

owner_lets_go : (number : ℕ) (own : Bool) (handles : List OwnHandle) (items : List RpcItem) → OwnerStands handles items → OwnerStands (owner_released (key_of number own) handles) (Did (Release (key_of number own)) ∷ items)
owner_lets_go number true handles items s = let_go_stands number handles items s
owner_lets_go number false handles items s = let_go_leaves_owner number handles items s

pub owner_let_go_after : (key : HandleKey) (old new : List OwnHandle) (items : List RpcItem) → new ≡ owner_released key old → OwnerStands old items → OwnerStands new (Did (Release key) ∷ items)
owner_let_go_after key old new items e s = subst (λ (hs : List OwnHandle). OwnerStands hs (Did (Release key) ∷ items)) (sym e) (owner_lets_go key.number key.own old items s)

holder_lets_go : (number : ℕ) (own : Bool) (held : List PeerHandle) (items : List RpcItem) → HolderStands held items → HolderStands (holder_released (key_of number own) held) (Did (Release (key_of number own)) ∷ items)
holder_lets_go number true held items s = let_go_leaves_holder number held items s
holder_lets_go number false held items s = let_go_holds number held items s

pub holder_let_go_after : (key : HandleKey) (old new : List PeerHandle) (items : List RpcItem) → new ≡ holder_released key old → HolderStands old items → HolderStands new (Did (Release key) ∷ items)
holder_let_go_after key old new items e s = subst (λ (hs : List PeerHandle). HolderStands hs (Did (Release key) ∷ items)) (sym e) (holder_lets_go key.number key.own old items s)

-- a release by the peer

owner_releases : (number : ℕ) (own : Bool) (place : ℕ) (message : Message) (handles : List OwnHandle) (items : List RpcItem) → IsRelease (key_of number own) message → OwnerStands handles items → OwnerStands (owner_released (key_of number own) handles) (Got place message ∷ items)
owner_releases number true place message handles items is s = release_stands number place message handles items is s
owner_releases number false place message handles items is s = release_leaves_owner number place message handles items is s

pub owner_released_after : (key : HandleKey) (place : ℕ) (message : Message) (old new : List OwnHandle) (items : List RpcItem) → new ≡ owner_released key old → IsRelease key message → OwnerStands old items → OwnerStands new (Got place message ∷ items)
owner_released_after key place message old new items e is s = subst (λ (hs : List OwnHandle). OwnerStands hs (Got place message ∷ items)) (sym e) (owner_releases key.number key.own place message old items is s)

holder_releases : (number : ℕ) (own : Bool) (place : ℕ) (message : Message) (held : List PeerHandle) (items : List RpcItem) → IsRelease (key_of number own) message → HolderStands held items → HolderStands (holder_released (key_of number own) held) (Got place message ∷ items)
holder_releases number true place message held items is s = release_leaves_holder number place message held items is s
holder_releases number false place message held items is s = release_holds number place message held items is s

pub holder_released_after : (key : HandleKey) (place : ℕ) (message : Message) (old new : List PeerHandle) (items : List RpcItem) → new ≡ holder_released key old → IsRelease key message → HolderStands old items → HolderStands new (Got place message ∷ items)
holder_released_after key place message old new items e is s = subst (λ (hs : List PeerHandle). HolderStands hs (Got place message ∷ items)) (sym e) (holder_releases key.number key.own place message old items is s)
