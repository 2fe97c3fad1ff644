-- What is kept of the peer's handles stands for the items again after each item.
use Rattle.std.specs.Prelude.{Bool, true, false, ◌||◌, ◌==◌, is_some, option_map, if◌then◌else◌, Option}
use Rattle.std.proofs.Common.{◌≡◌, ℕ, List, [], ◌∷◌, refl, sym, ◌∙◌, ap, ap₂, Some, None}
use Rattle.wire_base.specs.Tree.{Tree}
use Rattle.wire_base.specs.declared.state.Cause.{Cause}
use Rattle.wire_base.specs.declared.text.Id.{Id}
use Rattle.wire_base.specs.Options.{or_else}
use Rattle.rpc_items.specs.declared.calls.Answer.{Answer}
use Rattle.rpc_items.specs.declared.calls.HandleKey.{HandleKey}
use Rattle.rpc_items.specs.declared.messages.Message.{Message}
use Rattle.rpc_items.specs.declared.messages.Message.TheVariants.{Request, Notification}
use Rattle.rpc_items.specs.declared.messages.Message.TheVariants as message
use Rattle.rpc_items.specs.declared.messages.Params.{Params}
use Rattle.rpc_items.specs.declared.methods.Meaning.{Meaning}
use Rattle.rpc_items.specs.declared.methods.Meaning.TheVariants.{Releases}
use Rattle.rpc_items.specs.Items.{RpcItem, Did, Got, End, Respond, Release}
use Rattle.rpc_items.specs.Keys.{peer_key, same_key}
use Rattle.rpc_items.specs.Meanings.{meaning}
use Rattle.rpc_items.specs.Objects.{offered_in, whole_arguments}
use Rattle.rpc_items.specs.Outcomes.{request_named}
use Rattle.rpc_items.specs.OwnHandles.{is_release, releases}
use Rattle.rpc_items.specs.PeerHandles.{Adopted, adopted, adopted_by, adopted_in, adoption, ends_adopted, ends_peer, is_service, is_until, peer_ended}
use Rattle.rpc_items.specs.Waiting.{asks}
use Rattle.marshalled_handles.specs.declared.peer_handle.PeerHandle.{PeerHandle}
use Rattle.marshalled_handles.specs.Holder.{AreRising, adopting, adopting_all, all_ended, ending, found, released, responded, responding}
use Rattle.marshalled_handles.specs.Stands.{HolderStands, IsRelease, Offers, OffersOne, held_after}
use Rattle.marshalled_handles.proofs.Finding.{adopted_as, adopting_rises, all_rise, ending_if, first_none, found_adopting, found_all, found_map, found_released, if_as, map_rises, released_rises, responding_keeps, unended}
use Rattle.marshalled_handles.proofs.Owned.{or_false, release_releases, same_peer}

-- handles that weren't adopted

first_was_none : {A : Type 0} (a b : Option A) → or_else a b ≡ None → a ≡ None
first_was_none (Some x) b e = absurd (cc e)
first_was_none None b e = refl

unadopted_before : (number : ℕ) (item : RpcItem) (items : List RpcItem) → adopted number (item ∷ items) ≡ None → adopted number items ≡ None
unadopted_before number (Got place m) items e = first_was_none (adopted number items) (adoption number m items) e
unadopted_before number (Did call) items e = e
unadopted_before number (End cause) items e = e

pub unadopted_lives : (number : ℕ) (items : List RpcItem) → adopted number items ≡ None → peer_ended number items ≡ false
unadopted_lives number [] e = refl
unadopted_lives number (item ∷ items) e =
    let none = unadopted_before number item items e in
    ap₂ (λ (b : Bool) (o : Option Adopted). b || ends_adopted number o item) (unadopted_lives number items none) none

ended_adopted : (number : ℕ) (item : RpcItem) (items : List RpcItem) (a : Adopted) → adopted number items ≡ Some a → peer_ended number (item ∷ items) ≡ (peer_ended number items || ends_peer number a.until item)
ended_adopted number item items a e = ap (λ (o : Option Adopted). peer_ended number items || ends_adopted number o item) e

-- handles end

-- what is kept of a handle with whether it has ended
abbrev held_with : ℕ → Adopted → Bool → PeerHandle
held_with number a ended = record { number = number; until = a.until; ended = ended }

ends_or : (number : ℕ) (a : Adopted) (ended b : Bool) → ending_if b (held_with number a ended) ≡ held_with number a (ended || b)
ends_or number a true true = refl
ends_or number a false true = refl
ends_or number a true false = refl
ends_or number a false false = refl

-- an item that adopts no handle ends those of which this holds, by their numbers and the requests with whose responses they end
pub ended_hold : (ends : ℕ → Option Id → Bool) (item : RpcItem) (items : List RpcItem) (old new : List PeerHandle)
    → ((number : ℕ) → adopted number (item ∷ items) ≡ adopted number items)
    → ((number : ℕ) (until : Option Id) → ends_peer number until item ≡ ends number until)
    → ((number : ℕ) → found number new ≡ option_map (λ h. ending_if (ends number h.until) h) (found number old))
    → AreRising new → HolderStands old items → HolderStands new (item ∷ items)
ended_hold ends item items old new none does are rises s = record {
  each = λ number.
      are number
      ∙ (ap (option_map (λ (h : PeerHandle). ending_if (ends number h.until) h)) (s.each number)
      ∙ (by number (adopted number items) refl
      ∙ sym (ap (option_map (held_after number (item ∷ items))) (none number))));
  rising = rises;
}
  where
    by : (number : ℕ) (o : Option Adopted) → adopted number items ≡ o → option_map (λ (h : PeerHandle). ending_if (ends number h.until) h) (option_map (held_after number items) o) ≡ option_map (held_after number (item ∷ items)) o
    by number (Some a) e =
        let now : peer_ended number (item ∷ items) ≡ (peer_ended number items || ends number a.until) = ended_adopted number item items a e ∙ ap (λ (b : Bool). peer_ended number items || b) (does number a.until) in
        ap (λ (h : PeerHandle). Some h) (ends_or number a (peer_ended number items) (ends number a.until) ∙ sym (ap (held_with number a) now))
    by number None e = refl

-- an item that adopts no handle and ends none
pub passed : (held : List PeerHandle) (item : RpcItem) (items : List RpcItem) → ((number : ℕ) → adopted number (item ∷ items) ≡ adopted number items) → ((number : ℕ) (until : Option Id) → ends_peer number until item ≡ false) → HolderStands held items → HolderStands held (item ∷ items)
passed held item items none ends s = ended_hold (λ number until. false) item items held held none ends (λ number. unended false (found number held) refl) s.rising s

-- a release

released_hold : (k : ℕ) (item : RpcItem) (held : List PeerHandle) (items : List RpcItem) → ((number : ℕ) → adopted number (item ∷ items) ≡ adopted number items) → ((number : ℕ) (until : Option Id) → ends_peer number until item ≡ same_key (peer_key k) (peer_key number)) → HolderStands held items → HolderStands (released k held) (item ∷ items)
released_hold k item held items none ends s =
    ended_hold (λ number until. k == number) item items held (released k held) none (λ number until. ends number until ∙ same_peer k number) (λ number. found_released k number held) (released_rises k held s.rising) s

pub let_go_holds : (k : ℕ) (held : List PeerHandle) (items : List RpcItem) → HolderStands held items → HolderStands (released k held) (Did (Release (peer_key k)) ∷ items)
let_go_holds k held items s = released_hold k (Did (Release (peer_key k))) held items (λ number. refl) (λ number until. refl) s

-- a release offers nothing

pub release_offers : (key : HandleKey) (number : ℕ) (m : Message) (items : List RpcItem) → IsRelease key m → adoption number m items ≡ None
release_offers key number (Request id method params) items e = ap (λ (m : Meaning). if asks m items then adopted_in number (Some id) (whole_arguments params) else None) e
release_offers key number (Notification method params) items e = ap (λ (m : Meaning). if is_service m then adopted_in number None (whole_arguments params) else None) e
release_offers key number m items e = absurd e

pub release_adopts : (key : HandleKey) (number place : ℕ) (m : Message) (items : List RpcItem) → IsRelease key m → adopted number (Got place m ∷ items) ≡ adopted number items
release_adopts key number place m items e = ap (or_else (adopted number items)) (release_offers key number m items e) ∙ first_none (adopted number items)

pub release_holds : (k place : ℕ) (m : Message) (held : List PeerHandle) (items : List RpcItem) → IsRelease (peer_key k) m → HolderStands held items → HolderStands (released k held) (Got place m ∷ items)
release_holds k place m held items is s = released_hold k (Got place m) held items (λ number. release_adopts (peer_key k) number place m items is) (λ number until. release_releases (peer_key k) (peer_key number) m is) s

-- an answer to a request of the peer

pub responded_holds : (id : Id) (response : Answer) (held : List PeerHandle) (items : List RpcItem) → HolderStands held items → HolderStands (responded id held) (Did (Respond id response) ∷ items)
responded_holds id response held items s =
    ended_hold (λ number until. is_until until id) (Did (Respond id response)) items held (responded id held) (λ number. refl) (λ number until. refl) (λ number. found_map (responding id) number held (responding_keeps id)) (map_rises (responding id) held (responding_keeps id) s.rising) s

-- the end

pub ended_holds : (cause : Cause) (held : List PeerHandle) (items : List RpcItem) → HolderStands held items → HolderStands (all_ended held) (End cause ∷ items)
ended_holds cause held items s =
    ended_hold (λ number until. true) (End cause) items held (all_ended held) (λ number. refl) (λ number until. refl) (λ number. found_map ending number held (λ h. refl)) (map_rises ending held (λ h. refl) s.rising) s

-- handles are adopted

-- a message that releases none adopts these
pub adopted_hold : (place : ℕ) (m : Message) (held new : List PeerHandle) (items : List RpcItem) → ((number : ℕ) → releases (peer_key number) m ≡ false) → ((number : ℕ) → found number new ≡ or_else (found number held) (option_map (adopted_as number) (adoption number m items)))
    → AreRising new → HolderStands held items → HolderStands new (Got place m ∷ items)
adopted_hold place m held new items keeps are rises s = record {
  each = λ number. are number ∙ (ap (λ (o : Option PeerHandle). or_else o (option_map (adopted_as number) (adoption number m items))) (s.each number) ∙ by number (adopted number items) refl);
  rising = rises;
}
  where
    later : (number : ℕ) (o : Option Adopted) → adopted number items ≡ None → option_map (adopted_as number) o ≡ option_map (held_after number (Got place m ∷ items)) o
    later number (Some a) none =
        let lives : peer_ended number (Got place m ∷ items) ≡ false = ap₂ (λ (b : Bool) (o : Option Adopted). b || ends_adopted number o (Got place m)) (unadopted_lives number items none) none in
        ap (λ (b : Bool). Some (held_with number a b)) (sym lives)
    later number None none = refl

    by : (number : ℕ) (o : Option Adopted) → adopted number items ≡ o → or_else (option_map (held_after number items) o) (option_map (adopted_as number) (adoption number m items)) ≡ option_map (held_after number (Got place m ∷ items)) (or_else o (adoption number m items))
    by number (Some a) e =
        let now : peer_ended number (Got place m ∷ items) ≡ peer_ended number items = ended_adopted number (Got place m) items a e ∙ (ap (λ (b : Bool). peer_ended number items || b) (keeps number) ∙ or_false (peer_ended number items)) in
        ap (λ (b : Bool). Some (held_with number a b)) (sym now)
    by number None e = later number (adoption number m items) e

pub all_hold : (request : Option Id) (values : List Tree) (place : ℕ) (m : Message) (held : List PeerHandle) (items : List RpcItem) → Offers request values m items → HolderStands held items → HolderStands (adopting_all request values held) (Got place m ∷ items)
all_hold request values place m held items o s =
    adopted_hold place m held (adopting_all request values held) items o.keeps
    (λ number. found_all number request values held ∙ sym (ap (λ (a : Option Adopted). or_else (found number held) (option_map (adopted_as number) a)) (o.adopts number)))
    (all_rise request values held s.rising) s

pub one_holds : (number : ℕ) (until : Option Id) (place : ℕ) (m : Message) (held : List PeerHandle) (items : List RpcItem) → OffersOne number until m items → HolderStands held items → HolderStands (adopting number until held) (Got place m ∷ items)
one_holds number until place m held items o s =
    adopted_hold place m held (adopting number until held) items o.keeps
    (λ n. found_adopting n number until held ∙ (ap (or_else (found n held)) (if_as n number until (number == n) refl) ∙ sym (ap (λ (a : Option Adopted). or_else (found n held) (option_map (adopted_as n) a)) (o.adopts n))))
    (adopting_rises number until held s.rising) s

-- what messages offer

asked_keeps : (m : Meaning) (items : List RpcItem) (key : HandleKey) → asks m items ≡ true → is_release key m ≡ false
asked_keeps (Releases released) items key e = absurd (cc e)
asked_keeps m items key e = refl

served_keeps : (m : Meaning) (key : HandleKey) → is_service m ≡ true → is_release key m ≡ false
served_keeps (Releases released) key e = absurd (cc e)
served_keeps m key e = refl

-- a request that is asked
pub request_offers : (id : Id) (method : List ℕ) (params : Params) (items : List RpcItem) → asks (meaning method params) items ≡ true → Offers (Some id) (whole_arguments params) (Request id method params) items
request_offers id method params items e = record {
  adopts = λ number. ap (λ (b : Bool). if b then adopted_in number (Some id) (whole_arguments params) else None) e;
  keeps = λ number. asked_keeps (meaning method params) items (peer_key number) e;
}

-- a notification to the service
pub notification_offers : (method : List ℕ) (params : Params) (items : List RpcItem) → is_service (meaning method params) ≡ true → Offers None (whole_arguments params) (Notification method params) items
notification_offers method params items e = record {
  adopts = λ number. ap (λ (b : Bool). if b then adopted_in number None (whole_arguments params) else None) e;
  keeps = λ number. served_keeps (meaning method params) (peer_key number) e;
}

-- the first result of an own request
pub result_offers : (id : Id) (value : Tree) (items : List RpcItem) → is_some (request_named id items) ≡ true → Offers None (value ∷ []) (message.Result id value) items
result_offers id value items e = record {
  adopts = λ number. ap (λ (b : Bool). if b then adopted_by number None (offered_in value) else None) e ∙ sym (first_none (adopted_by number None (offered_in value)));
  keeps = λ number. refl;
}
