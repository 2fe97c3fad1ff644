-- What is kept of own handles stands for the items again after each item.
use Rattle.std.specs.Prelude.{Bool, true, false, ◌||◌, ◌==◌, is_some, option_map, slice_get, Option}
use Rattle.std.proofs.Common.{◌≡◌, ℕ, ◌+◌, ◌-◌, List, [], ◌∷◌, ◌++◌, length, refl, sym, ◌∙◌, ap, ap₂, inl, inr, arith, Some, None, length-append}
use Rattle.std.proofs.lemmas.Bool.{cases_Bool, cases_lt, eqb-true}
use Rattle.std.proofs.lemmas.List.{length-map, map-append}
use Rattle.std.proofs.lemmas.Option.{slice_get-map}
use Rattle.wire_base.specs.declared.state.Cause.{Cause}
use Rattle.wire_base.proofs.Places.{get_before, get_behind, get_past}
use Rattle.rpc_items.specs.declared.calls.Answer.TheVariants as answer
use Rattle.rpc_items.specs.declared.calls.Outcome.{Outcome}
use Rattle.rpc_items.specs.declared.messages.Message.{Message}
use Rattle.rpc_items.specs.Drawn.{arg_list, drawn}
use Rattle.rpc_items.specs.Items.{RpcCall, RpcItem, Did, Got, End, Ask, Tell, Respond, Invoke, Release, is_running}
use Rattle.rpc_items.specs.Keys.{own_key, same_key}
use Rattle.rpc_items.specs.Made.{Made, made, made_by}
use Rattle.rpc_items.specs.Outcomes.{is_unanswered, response_in}
use Rattle.rpc_items.specs.OwnHandles.{ends_made, ends_own, own_ended, own_made}
use Rattle.rpc_items.proofs.Numbered.{numbered_next}
use Rattle.marshalled_handles.specs.declared.own_handle.OwnHandle.{OwnHandle}
use Rattle.marshalled_handles.specs.Owner.{all_ended, answered, answering, ending, fresh, is_until, released}
use Rattle.marshalled_handles.specs.Stands.{IsRelease, OwnerStands, own_after, own_at}
use Rattle.marshalled_handles.proofs.Ending.{answered_both, answered_others, answered_over, answered_released, answered_twice, answered_untied, fresh_all}
use Rattle.marshalled_handles.proofs.Owned.{drawn_waits, ended_made, made_same, message_waits, not_waiting, or_false, release_answers, release_ends, response_ends, response_one, same_own, unmade_lives}
use Rattle.marshalled_handles.proofs.Places.{ending_if, length-released, released_each, unended}

-- handles end

-- an item ends the handles of which this holds, by their numbers and the requests with whose responses they end
abbrev pub Ends : (ℕ → Option ℕ → Bool) → RpcItem → Type 0
Ends ends item = (number : ℕ) (until : Option ℕ) → ends_own number until item ≡ ends number until

-- the handles of which it holds end
abbrev pub AreEnded : (ℕ → Option ℕ → Bool) → (old new : List OwnHandle) → Type 0
AreEnded ends old new = (place : ℕ) → slice_get new place ≡ option_map (λ h. ending_if (ends (place + 1) h.until) h) (slice_get old place)

-- what is kept of a handle with whether it has ended
abbrev own_with : Made → Bool → OwnHandle
own_with m ended = record { object = m.object; until = m.until; ended = ended }

ends_or : (m : Made) (ended b : Bool) → ending_if b (own_with m ended) ≡ own_with m (ended || b)
ends_or m true true = refl
ends_or m false true = refl
ends_or m true false = refl
ends_or m false false = refl

pub ended_each : (ends : ℕ → Option ℕ → Bool) (item : RpcItem) (items : List RpcItem) (old new : List OwnHandle) → made_by (drawn items + 1) item ≡ [] → Ends ends item → AreEnded ends old new → ((place : ℕ) → slice_get old place ≡ own_at place items)
    → (place : ℕ) → slice_get new place ≡ own_at place (item ∷ items)
ended_each ends item items old new none does are each place =
    are place
    ∙ (ap (option_map (λ (h : OwnHandle). ending_if (ends (place + 1) h.until) h)) (each place)
    ∙ (by (slice_get (made items) place) refl
    ∙ sym (ap (λ (ms : List Made). option_map (own_after (place + 1) (item ∷ items)) (slice_get ms place)) (made_same item items none))))
  where
    by : (o : Option Made) → slice_get (made items) place ≡ o → option_map (λ (h : OwnHandle). ending_if (ends (place + 1) h.until) h) (option_map (own_after (place + 1) items) o) ≡ option_map (own_after (place + 1) (item ∷ items)) o
    by (Some m) e =
        let at : own_made (place + 1) items ≡ Some m = numbered_next place (made items) ∙ e in
        let now : own_ended (place + 1) (item ∷ items) ≡ (own_ended (place + 1) items || ends (place + 1) m.until) = ended_made (place + 1) item items m at ∙ ap (λ (b : Bool). own_ended (place + 1) items || b) (does (place + 1) m.until) in
        ap (λ (h : OwnHandle). Some h) (ends_or m (own_ended (place + 1) items) (ends (place + 1) m.until) ∙ sym (ap (own_with m) now))
    by None e = refl

count_same : (item : RpcItem) (items : List RpcItem) (old new : List OwnHandle) → made_by (drawn items + 1) item ≡ [] → length new ≡ length old → OwnerStands old items → length new ≡ length (made (item ∷ items))
count_same item items old new none long s = long ∙ (s.count ∙ ap length (sym (made_same item items none)))

-- an item that ends none

pub passed : (handles : List OwnHandle) (item : RpcItem) (items : List RpcItem) → made_by (drawn items + 1) item ≡ [] → ((number : ℕ) (until : Option ℕ) → ends_own number until item ≡ false) → ((n : ℕ) → is_unanswered n (item ∷ items) ≡ false → is_unanswered n items ≡ false)
    → OwnerStands handles items → OwnerStands handles (item ∷ items)
passed handles item items none ends waits s = record {
  count = count_same item items handles handles none refl s;
  each = ended_each (λ number until. false) item items handles handles none ends (λ place. unended false (slice_get handles place) refl) s.each;
  late = λ n e. s.late n (waits n e);
}

-- a release

pub released_stands : (number : ℕ) (item : RpcItem) (handles : List OwnHandle) (items : List RpcItem) → made_by (drawn items + 1) item ≡ [] → ((k : ℕ) (until : Option ℕ) → ends_own k until item ≡ same_key (own_key number) (own_key k)) → ((n : ℕ) → is_unanswered n (item ∷ items) ≡ false → is_unanswered n items ≡ false)
    → OwnerStands handles items → OwnerStands (released number handles) (item ∷ items)
released_stands number item handles items none ends waits s = record {
  count = count_same item items handles (released number handles) none (length-released number handles) s;
  each = ended_each (λ k until. number == k) item items handles (released number handles) none (λ k until. ends k until ∙ same_own number k) (λ place. released_each number place handles) s.each;
  late = λ n e. answered_released n number handles ∙ ap (released number) (s.late n (waits n e));
}

pub let_go_stands : (number : ℕ) (handles : List OwnHandle) (items : List RpcItem) → OwnerStands handles items → OwnerStands (released number handles) (Did (Release (own_key number)) ∷ items)
let_go_stands number handles items s = released_stands number (Did (Release (own_key number))) handles items refl (λ k until. refl) (λ n. not_waiting n (Release (own_key number)) items) s

pub release_stands : (number place : ℕ) (message : Message) (handles : List OwnHandle) (items : List RpcItem) → IsRelease (own_key number) message → OwnerStands handles items → OwnerStands (released number handles) (Got place message ∷ items)
release_stands number place message handles items is s =
    released_stands number (Got place message) handles items refl (release_ends (own_key number) place message is)
    (λ n e. sym (message_waits n place message items (release_answers (own_key number) message is n)) ∙ e) s

-- a response

other_response : (r n : ℕ) (message : Message) (outcome : Outcome) → response_in r message ≡ Some outcome → (r == n) ≡ false → response_in n message ≡ None
other_response r n message outcome e apart = by (response_in n message) refl
  where
    by : (o : Option Outcome) → response_in n message ≡ o → response_in n message ≡ None
    by (Some x) h = absurd (cc (sym apart ∙ (sym (response_one r n message outcome e) ∙ ap is_some h)))
    by None h = h

pub answered_stands : (r place : ℕ) (message : Message) (outcome : Outcome) (handles : List OwnHandle) (items : List RpcItem) → response_in r message ≡ Some outcome → OwnerStands handles items → OwnerStands (answered r handles) (Got place message ∷ items)
answered_stands r place message outcome handles items says s = record {
  count = count_same (Got place message) items handles (answered r handles) refl (length-map handles (answering r)) s;
  each = ended_each (λ number until. is_until r until) (Got place message) items handles (answered r handles) refl (response_ends r place message outcome says) (λ place. slice_get-map (answering r) handles place) s.each;
  late = λ n e. late n e (r == n) refl;
}
  where
    late : (n : ℕ) → is_unanswered n (Got place message ∷ items) ≡ false → (b : Bool) → (r == n) ≡ b → answered n (answered r handles) ≡ answered r handles
    late n e true same = ap (λ (k : ℕ). answered k (answered r handles)) (sym (eqb-true r n same)) ∙ answered_twice r handles
    late n e false apart =
        let waits : is_unanswered n items ≡ false = sym (message_waits n place message items (other_response r n message outcome says apart)) ∙ e in
        answered_both n r handles ∙ ap (answered r) (s.late n waits)

-- the end

pub ended_stands : (cause : Cause) (handles : List OwnHandle) (items : List RpcItem) → OwnerStands handles items → OwnerStands (all_ended handles) (End cause ∷ items)
ended_stands cause handles items s = record {
  count = count_same (End cause) items handles (all_ended handles) refl (length-map handles ending) s;
  each = ended_each (λ number until. true) (End cause) items handles (all_ended handles) refl (λ number until. refl) (λ place. slice_get-map ending handles place) s.each;
  late = λ n e. answered_over n handles;
}

-- handles that a call makes

-- a call that releases no handle
abbrev pub is_release_call : RpcCall → Bool
is_release_call (Release key) = true
is_release_call call = false

pub call_ends_none : (call : RpcCall) → is_release_call call ≡ false → (number : ℕ) (until : Option ℕ) → ends_own number until (Did call) ≡ false
call_ends_none (Release key) e number until = absurd (cc e)
call_ends_none call e number until = refl

other_waits : (k n : ℕ) (call : RpcCall) (items : List RpcItem) → is_unanswered n (Did call ∷ items) ≡ false → is_unanswered k (Did call ∷ items) ≡ true → (k == n) ≡ false
other_waits k n call items e w = elim (cases_Bool (k == n)) [
  | inl h ↦ absurd (cc (sym e ∙ (ap (λ (j : ℕ). is_unanswered j (Did call ∷ items)) (sym (eqb-true k n h)) ∙ w)))
  | inr h ↦ h
]

-- none of the handles that a call makes ends with another response than that to its own request
call_ties : (call : RpcCall) (items : List RpcItem) (n : ℕ) → is_running items ≡ true → is_unanswered n (Did call ∷ items) ≡ false → answered n (fresh_all (made_by (drawn items + 1) (Did call))) ≡ fresh_all (made_by (drawn items + 1) (Did call))
call_ties (Ask method args expect) items n runs e = answered_others n (drawn items + 1) (arg_list args) (other_waits (drawn items + 1) n (Ask method args expect) items e (drawn_waits (Ask method args expect) items refl runs))
call_ties (Invoke handle method args expect) items n runs e = answered_others n (drawn items + 1) (arg_list args) (other_waits (drawn items + 1) n (Invoke handle method args expect) items e (drawn_waits (Invoke handle method args expect) items refl runs))
call_ties (Tell method args) items n runs e = answered_untied n (arg_list args)
call_ties (Respond id (answer.Object object)) items n runs e = refl
call_ties (Respond id response) items n runs e = refl
call_ties call items n runs e = refl

pub made_stands : (call : RpcCall) (handles : List OwnHandle) (items : List RpcItem) → is_running items ≡ true → is_release_call call ≡ false → OwnerStands handles items → OwnerStands (handles ++ fresh_all (made_by (drawn items + 1) (Did call))) (Did call ∷ items)
made_stands call handles items runs keeps s = record {
  count = (let kept = length-append handles (fresh_all more) in let now = length-append (made items) more in let fresh_too = length-map more fresh in omega (arith, kept, now, fresh_too, s.count));
  each = each;
  late = λ n e. map-append (answering n) handles (fresh_all more) ∙ ap₂ (λ (xs ys : List OwnHandle). xs ++ ys) (s.late n (not_waiting n call items e)) (call_ties call items n runs e);
}
  where
    more : List Made
    more = made_by (drawn items + 1) (Did call)

    earlier : (place : ℕ) (o : Option Made) → slice_get (made items) place ≡ o → option_map (own_after (place + 1) items) o ≡ option_map (own_after (place + 1) (Did call ∷ items)) o
    earlier place (Some m) e =
        let at : own_made (place + 1) items ≡ Some m = numbered_next place (made items) ∙ e in
        let now : own_ended (place + 1) (Did call ∷ items) ≡ own_ended (place + 1) items = ended_made (place + 1) (Did call) items m at ∙ (ap (λ (b : Bool). own_ended (place + 1) items || b) (call_ends_none call keeps (place + 1) m.until) ∙ or_false (own_ended (place + 1) items)) in
        ap (λ (b : Bool). Some (own_with m b)) (sym now)
    earlier place None e = refl

    later : (place : ℕ) (o : Option Made) → own_made (place + 1) items ≡ None → option_map fresh o ≡ option_map (own_after (place + 1) (Did call ∷ items)) o
    later place (Some m) none =
        let lives : own_ended (place + 1) (Did call ∷ items) ≡ false = ap₂ (λ (b : Bool) (o : Option Made). b || ends_made (place + 1) o (Did call)) (unmade_lives (place + 1) items none) none in
        ap (λ (b : Bool). Some (own_with m b)) (sym lives)
    later place None none = refl

    behind : (i place : ℕ) → place ≡ length handles + i → slice_get (handles ++ fresh_all more) place ≡ own_at place (Did call ∷ items)
    behind i place e =
        let at : place ≡ length (made items) + i = omega (arith, e, s.count) in
        let none : own_made (place + 1) items ≡ None = numbered_next place (made items) ∙ get_past (made items) place (omega (arith, at)) in
        ap (slice_get (handles ++ fresh_all more)) e
        ∙ (get_behind handles (fresh_all more) i
        ∙ (slice_get-map fresh more i
        ∙ (later place (slice_get more i) none
        ∙ sym (ap (option_map (own_after (place + 1) (Did call ∷ items))) (ap (slice_get (made items ++ more)) at ∙ get_behind (made items) more i)))))

    each : (place : ℕ) → slice_get (handles ++ fresh_all more) place ≡ own_at place (Did call ∷ items)
    each place = elim (cases_lt place (length handles)) [
      | inl l ↦ get_before handles (fresh_all more) place l
          ∙ (s.each place
          ∙ (earlier place (slice_get (made items) place) refl
          ∙ sym (ap (option_map (own_after (place + 1) (Did call ∷ items))) (get_before (made items) more place (omega (arith, l, s.count))))))
      | inr l ↦ behind (place - length handles) place (omega (arith, l))
    ]
