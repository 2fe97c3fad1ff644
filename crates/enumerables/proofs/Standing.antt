-- What is kept of the sequences that were answered stands for the items again after each item.
use Rattle.std.specs.Prelude.{Bool, true, false, not, ◌&&◌, ◌||◌, ◌⊎◌, nat_lt, slice_get, option_map, is_some, if◌then◌else◌, zero, suc}
use Rattle.std.proofs.Common.{◌≡◌, ◌≢◌, ℕ, ◌+◌, ◌-◌, ◌*◌, ◌<◌, List, [], ◌∷◌, ◌++◌, length, drop, refl, sym, ◌∙◌, ap, ap₂, subst, inl, inr, arith, Option, Some, None, length-append}
use Rattle.std.proofs.lemmas.Bool.{ltb-false}
use Rattle.std.proofs.lemmas.List.{append-nil, drop-drop, drop_all, length-map}
use Rattle.std.proofs.lemmas.Option.{slice_get_past, slice_get-map}
use Rattle.wire_base.specs.Tree.{Tree}
use Rattle.wire_base.specs.declared.state.Cause.{Cause}
use Rattle.wire_base.specs.declared.text.Id.{Id}
use Rattle.wire_base.specs.Lists.{changed_at}
use Rattle.wire_base.proofs.Places.{get_before, get_last, three_ways, changed_at_same, changed_at_other, length-changed_at}
use Rattle.rpc_items.specs.declared.calls.Answer.TheVariants as answer
use Rattle.rpc_items.specs.declared.messages.Message.{Message}
use Rattle.rpc_items.specs.declared.messages.Message.TheVariants.{Request, Notification}
use Rattle.rpc_items.specs.declared.messages.Params.{Params}
use Rattle.rpc_items.specs.declared.methods.Meaning.TheVariants.{Turns}
use Rattle.rpc_items.specs.Drawn.{with_number}
use Rattle.rpc_items.specs.Ids.{same_id, numbered_id}
use Rattle.rpc_items.specs.Items.{RpcItem, Did, Got, End, Respond, is_running}
use Rattle.rpc_items.specs.Meanings.{meaning}
use Rattle.rpc_items.specs.Pages.{are_left}
use Rattle.rpc_items.specs.Produced.{Produced, produced, produced_by, produced_at}
use Rattle.rpc_items.specs.Producing.{is_turn, turns_page, is_abort, aborts, is_aborted, is_open, page_count, is_producing, sequence_named}
use Rattle.rpc_items.proofs.Paging.{produced_more}
use Rattle.rpc_items.proofs.Numbered.{numbered_at}
use Rattle.rpc_items.proofs.SameIds.{same_id_eq, same_id_refl}
use Rattle.enumerables.specs.declared.sequence.Sequence.{Sequence}
use Rattle.enumerables.specs.Producer.{changed, paging, ending, turned, given_up, all_ended, with_sequence}
use Rattle.enumerables.specs.Stands.{ProducerStands, IsAbort, left_of, sequence_after, sequence_at}
use Rattle.enumerables.proofs.Tokens.{names, named_parts, middle_part, last_part}

-- an item that draws no token

produced_same : (item : RpcItem) (items : List RpcItem) → produced_by item ≡ [] → produced (item ∷ items) ≡ produced items
produced_same item items e = ap (λ (ps : List Produced). produced items ++ ps) e ∙ append-nil (produced items)

-- an item after which a token has as many pages, and lives where it lived
pub record IsKept (token : ℕ) (item : RpcItem) (items : List RpcItem) : Type 0 where
  pub pages : page_count token (item ∷ items) ≡ page_count token items
  pub lives : is_producing token (item ∷ items) ≡ is_producing token items

after_kept : (token : ℕ) (item : RpcItem) (items : List RpcItem) → IsKept token item items → (s : Produced) → sequence_after token (item ∷ items) s ≡ sequence_after token items s
after_kept token item items k s = ap₂ (λ (b : Bool) (n : ℕ). record { page = s.page; left = left_of b n s }) k.lives k.pages

at_kept : (place : ℕ) (item : RpcItem) (items : List RpcItem) → produced_by item ≡ [] → IsKept (place + 1) item items → sequence_at place (item ∷ items) ≡ sequence_at place items
at_kept place item items none k = ap₂ (λ (f : Produced → Sequence) (ps : List Produced). option_map f (slice_get ps place)) (λ i s. after_kept (place + 1) item items k s i) (produced_same item items none)

-- whether a token lives, where an item draws none

lives_as : (token : ℕ) (item : RpcItem) (items : List RpcItem) (pages : ℕ) (running aborted : Bool) → produced_at token (item ∷ items) ≡ produced_at token items → page_count token (item ∷ items) ≡ pages → is_running (item ∷ items) ≡ running → is_aborted token (item ∷ items) ≡ aborted
    → is_producing token (item ∷ items) ≡ is_open (produced_at token items) pages running aborted
lives_as token item items pages running aborted s p r a = λ i. is_open (s i) (p i) (r i) (a i)

or_false : (a b : Bool) → (a || (b && false)) ≡ a
or_false true b = refl
or_false false true = refl
or_false false false = refl

not_turned : (t l : Bool) (n : ℕ) → (t && l) ≡ false → (if t && l then n + 1 else n) ≡ n
not_turned t l n e = ap (λ (b : Bool). if b then n + 1 else n) e

-- a token for which an item neither asks for a page nor gives it up
pub untouched : (token : ℕ) (item : RpcItem) (items : List RpcItem) → produced_by item ≡ [] → is_running (item ∷ items) ≡ is_running items → turns_page token item ≡ false → aborts token item ≡ false → IsKept token item items
untouched token item items none r t x = record { pages = pages; lives = lives_as token item items (page_count token items) (is_running items) (is_aborted token items) same pages r aborted }
  where
    same : produced_at token (item ∷ items) ≡ produced_at token items
    same = ap (with_number token) (produced_same item items none)

    pages : page_count token (item ∷ items) ≡ page_count token items
    pages = ap (λ (b : Bool). if b && is_producing token items then page_count token items + 1 else page_count token items) t

    aborted : is_aborted token (item ∷ items) ≡ is_aborted token items
    aborted = ap (λ (b : Bool). is_aborted token items || (is_some (produced_at token items) && b)) x ∙ or_false (is_aborted token items) (is_some (produced_at token items))

stays_dead : (g r a y : Bool) → (g && r && not a) ≡ false → (g && r && not (a || y)) ≡ false
stays_dead true true true y e = refl
stays_dead true true false y e = absurd (cc e)
stays_dead true false a y e = refl
stays_dead false r a y e = refl

and_false : (b : Bool) → (b && false) ≡ false
and_false true = refl
and_false false = refl

-- a token that doesn't live stays as it is
pub stays : (token : ℕ) (item : RpcItem) (items : List RpcItem) → produced_by item ≡ [] → is_running (item ∷ items) ≡ is_running items → is_producing token items ≡ false → IsKept token item items
stays token item items none r dead = record { pages = pages; lives = lives_as token item items (page_count token items) (is_running items) (is_aborted token (item ∷ items)) same pages r refl ∙ (ended ∙ sym dead) }
  where
    same : produced_at token (item ∷ items) ≡ produced_at token items
    same = ap (with_number token) (produced_same item items none)

    pages : page_count token (item ∷ items) ≡ page_count token items
    pages = not_turned (turns_page token item) (is_producing token items) (page_count token items) (ap (λ (b : Bool). turns_page token item && b) dead ∙ and_false (turns_page token item))

    ended : is_open (produced_at token items) (page_count token items) (is_running items) (is_aborted token (item ∷ items)) ≡ false
    ended = by (produced_at token items) dead
      where
        by : (p : Option Produced) → is_open p (page_count token items) (is_running items) (is_aborted token items) ≡ false → is_open p (page_count token items) (is_running items) (is_aborted token items || (is_some (produced_at token items) && aborts token item)) ≡ false
        by (Some s) d = stays_dead (are_left s (page_count token items)) (is_running items) (is_aborted token items) (is_some (produced_at token items) && aborts token item) d
        by None d = refl

-- one sequence becomes another, or none does

pub record IsLater (named : Option ℕ) (change : Sequence → Sequence) (item : RpcItem) (items : List RpcItem) : Type 0 where
  pub none : produced_by item ≡ []
  pub lives : (token : ℕ) → named ≡ Some token → is_producing token items ≡ true
  pub this : (token : ℕ) → named ≡ Some token → (s : Produced) → produced_at token items ≡ Some s → sequence_after token (item ∷ items) s ≡ change (sequence_after token items s)
  pub others : (token : ℕ) → (named ≡ Some token → ⊥) → IsKept token item items

pub passed : (sequences : List Sequence) (item : RpcItem) (items : List RpcItem) → produced_by item ≡ [] → ((token : ℕ) → IsKept token item items) → ProducerStands sequences items → ProducerStands sequences (item ∷ items)
passed sequences item items none kept s = record {
  count = s.count ∙ ap length (sym (produced_same item items none));
  each = λ place. s.each place ∙ sym (at_kept place item items none (kept (place + 1)));
}

-- a token that lives is above 0, as one that was drawn
lives_above : (token : ℕ) (items : List RpcItem) → is_producing token items ≡ true → 0 < token
lives_above zero items e = absurd (cc e)
lives_above (suc n) items e = omega arith

pub changes : (named : Option ℕ) (change : Sequence → Sequence) (sequences : List Sequence) (item : RpcItem) (items : List RpcItem) → IsLater named change item items → ProducerStands sequences items → ProducerStands (changed named change sequences) (item ∷ items)
changes None change sequences item items q s = passed sequences item items q.none (λ token. q.others token (λ e. cc e)) s
changes (Some token) change sequences item items q s = record {
  count = length-changed_at (token - 1) change sequences ∙ (s.count ∙ ap length (sym (produced_same item items q.none)));
  each = λ place. each place (three_ways place (token - 1));
}
  where
    l : 0 < token
    l = lives_above token items (q.lives token refl)

    back : token - 1 + 1 ≡ token
    back = omega (arith, l)

    other_place : (place : ℕ) → place ≢ token - 1 → slice_get (changed_at (token - 1) change sequences) place ≡ sequence_at place (item ∷ items)
    other_place place apart =
        changed_at_other (token - 1) place change sequences apart
        ∙ (s.each place ∙ sym (at_kept place item items q.none (q.others (place + 1) (λ e. apart (let same : token ≡ place + 1 = cc e in omega (arith, same))))))

    here : (p : Option Produced) → slice_get (produced items) (token - 1) ≡ p → slice_get (changed_at (token - 1) change sequences) (token - 1) ≡ sequence_at (token - 1) (item ∷ items)
    here None e = absurd (let lives = q.lives token refl in let none : produced_at token items ≡ None = numbered_at token (produced items) l ∙ e in cc (sym lives ∙ ap (λ (p : Option Produced). is_open p (page_count token items) (is_running items) (is_aborted token items)) none))
    here (Some p) e =
        let before : slice_get sequences (token - 1) ≡ Some (sequence_after token items p) = s.each (token - 1) ∙ ap₂ (λ (n : ℕ) (o : Option Produced). option_map (sequence_after n items) o) back e in
        let after : sequence_at (token - 1) (item ∷ items) ≡ Some (sequence_after token (item ∷ items) p) = ap₂ (λ (n : ℕ) (o : Option Produced). option_map (sequence_after n (item ∷ items)) o) back (ap (λ (ps : List Produced). slice_get ps (token - 1)) (produced_same item items q.none) ∙ e) in
        changed_at_same (token - 1) change sequences (sequence_after token items p) before
        ∙ sym (after ∙ ap (λ (x : Sequence). Some x) (q.this token refl p (numbered_at token (produced items) l ∙ e)))

    each : (place : ℕ) → (place < token - 1) ⊎ ((place ≡ token - 1) ⊎ (token - 1 < place)) → slice_get (changed_at (token - 1) change sequences) place ≡ sequence_at place (item ∷ items)
    each place (inl lt) = other_place place (λ e. omega (arith, e, lt))
    each place (inr (inl e)) = ap (slice_get (changed_at (token - 1) change sequences)) e ∙ (here (slice_get (produced items) (token - 1)) refl ∙ ap (λ (j : ℕ). sequence_at j (item ∷ items)) (sym e))
    each place (inr (inr lt)) = other_place place (λ e. omega (arith, e, lt))

-- a message that concerns one token

-- a token that an id names isn't another's, and one that it doesn't name doesn't live
unnamed : (b : Bool) (token : ℕ) → ((if b then Some token else None) ≡ Some token → ⊥) → b ≡ false
unnamed true token d = absurd (d refl)
unnamed false token d = refl

pub other_token : (id : Id) (token : ℕ) (items : List RpcItem) → (sequence_named id items ≡ Some token → ⊥) → (same_id id (numbered_id token) ≡ false) ⊎ (is_producing token items ≡ false)
other_token id token items d = by (same_id id (numbered_id token)) refl
  where
    by : (b : Bool) → same_id id (numbered_id token) ≡ b → (same_id id (numbered_id token) ≡ false) ⊎ (is_producing token items ≡ false)
    by false e = inl e
    by true e = inr (unnamed (is_producing token items) token (λ h. d (ap (λ (i : Id). sequence_named i items) (same_id_eq id (numbered_id token) e) ∙ h)))

-- a page

turned_left : (b : Bool) (pages : ℕ) (s : Produced) → are_left s (pages + 1) ≡ b → left_of b (pages + 1) s ≡ drop s.page (drop (s.first + pages * s.page) s.values)
turned_left true pages s e = ap (λ (n : ℕ). drop n s.values) (let next : s.first + (pages + 1) * s.page ≡ s.first + pages * s.page + s.page = omega arith in next) ∙ sym (drop-drop s.page (s.first + pages * s.page) s.values)
turned_left false pages s e = sym (drop-drop s.page (s.first + pages * s.page) s.values ∙ drop_all (s.first + pages * s.page + s.page) s.values (let over = ltb-false (s.first + (pages + 1) * s.page) (length s.values) e in omega (arith, over)))

and_true : (b : Bool) → (b && true && true) ≡ b
and_true true = refl
and_true false = refl

pub turned_stands : (id i : Id) (place : ℕ) (method : List ℕ) (params : Params) (sequences : List Sequence) (items : List RpcItem) → meaning method params ≡ Turns id → ProducerStands sequences items → ProducerStands (turned id sequences) (Got place (Request i method params) ∷ items)
turned_stands id i place method params sequences items means s =
    subst (λ (o : Option ℕ). ProducerStands (changed o paging sequences) (item ∷ items)) (sym (names sequences items id s))
    (changes (sequence_named id items) paging sequences item items (record { none = refl; lives = λ token e. (named_parts id items token e).0; this = this; others = others }) s)
  where
    item : RpcItem
    item = Got place (Request i method params)

    turns : (token : ℕ) → turns_page token item ≡ same_id id (numbered_id token)
    turns token = ap (is_turn token) means

    no_abort : (token : ℕ) → aborts token item ≡ false
    no_abort token = ap (is_abort token) means

    others : (token : ℕ) → (sequence_named id items ≡ Some token → ⊥) → IsKept token item items
    others token d = elim (other_token id token items d) [
      | inl f ↦ untouched token item items refl refl (turns token ∙ f) (no_abort token)
      | inr dead ↦ stays token item items refl refl dead
    ]

    this : (token : ℕ) → sequence_named id items ≡ Some token → (p : Produced) → produced_at token items ≡ Some p → sequence_after token (item ∷ items) p ≡ paging (sequence_after token items p)
    this token e p at =
        let n = page_count token items in
        let parts = named_parts id items token e in
        let open_ : is_open (Some p) n (is_running items) (is_aborted token items) ≡ true = ap (λ (o : Option Produced). is_open o n (is_running items) (is_aborted token items)) (sym at) ∙ parts.0 in
        let turn : turns_page token item ≡ true = turns token ∙ (ap (λ (x : Id). same_id x (numbered_id token)) parts.1 ∙ same_id_refl (numbered_id token)) in
        let pages : page_count token (item ∷ items) ≡ n + 1 = ap₂ (λ (a b : Bool). if a && b then n + 1 else n) turn parts.0 in
        let running : is_running (item ∷ items) ≡ true = middle_part (are_left p n) (is_running items) (is_aborted token items) open_ in
        let aborted : is_aborted token (item ∷ items) ≡ false = ap (λ (b : Bool). is_aborted token items || (is_some (produced_at token items) && b)) (no_abort token) ∙ (or_false (is_aborted token items) (is_some (produced_at token items)) ∙ last_part (are_left p n) (is_running items) (is_aborted token items) open_) in
        let lives : is_producing token (item ∷ items) ≡ are_left p (n + 1) = lives_as token item items (n + 1) true false (ap (with_number token) (produced_same item items refl)) pages running aborted ∙ (ap (λ (o : Option Produced). is_open o (n + 1) true false) at ∙ and_true (are_left p (n + 1))) in
        ap₂ (λ (b : Bool) (m : ℕ). record { page = p.page; left = left_of b m p }) lives pages
        ∙ ap (λ (ts : List Tree). record { page = p.page; left = ts }) (turned_left (are_left p (n + 1)) n p refl ∙ sym (ap (λ (b : Bool). drop p.page (left_of b n p)) parts.0))

-- a token that is given up

or_true : (a : Bool) → (a || (true && true)) ≡ true
or_true true = refl
or_true false = refl

not_open : (g r : Bool) → (g && r && not true) ≡ false
not_open true true = refl
not_open true false = refl
not_open false r = refl

aborted_ends : (p : Option Produced) (pages : ℕ) (r : Bool) → is_open p pages r true ≡ false
aborted_ends (Some s) pages r = not_open (are_left s pages) r
aborted_ends None pages r = refl

pub aborting : (id : Id) (place : ℕ) (message : Message) → IsAbort id message → ((token : ℕ) → aborts token (Got place message) ≡ same_id id (numbered_id token)) × ((token : ℕ) → turns_page token (Got place message) ≡ false)
aborting id place (Request i method params) e = (λ token. ap (is_abort token) e, λ token. ap (is_turn token) e)
aborting id place (Notification method params) e = (λ token. ap (is_abort token) e, λ token. refl)
aborting id place message e = absurd e

pub given_up_stands : (id : Id) (place : ℕ) (message : Message) (sequences : List Sequence) (items : List RpcItem) → IsAbort id message → ProducerStands sequences items → ProducerStands (given_up id sequences) (Got place message ∷ items)
given_up_stands id place message sequences items is s =
    subst (λ (o : Option ℕ). ProducerStands (changed o ending sequences) (item ∷ items)) (sym (names sequences items id s))
    (changes (sequence_named id items) ending sequences item items (record { none = refl; lives = λ token e. (named_parts id items token e).0; this = this; others = others }) s)
  where
    item : RpcItem
    item = Got place message

    says : ((token : ℕ) → aborts token item ≡ same_id id (numbered_id token)) × ((token : ℕ) → turns_page token item ≡ false)
    says = aborting id place message is

    others : (token : ℕ) → (sequence_named id items ≡ Some token → ⊥) → IsKept token item items
    others token d = elim (other_token id token items d) [
      | inl f ↦ untouched token item items refl refl (says.1 token) (says.0 token ∙ f)
      | inr dead ↦ stays token item items refl refl dead
    ]

    this : (token : ℕ) → sequence_named id items ≡ Some token → (p : Produced) → produced_at token items ≡ Some p → sequence_after token (item ∷ items) p ≡ ending (sequence_after token items p)
    this token e p at =
        let n = page_count token (item ∷ items) in
        let parts = named_parts id items token e in
        let gone : aborts token item ≡ true = says.0 token ∙ (ap (λ (x : Id). same_id x (numbered_id token)) parts.1 ∙ same_id_refl (numbered_id token)) in
        let aborted : is_aborted token (item ∷ items) ≡ true = ap₂ (λ (o : Option Produced) (b : Bool). is_aborted token items || (is_some o && b)) at gone ∙ or_true (is_aborted token items) in
        let ends : is_producing token (item ∷ items) ≡ false = ap (λ (b : Bool). is_open (produced_at token (item ∷ items)) n (is_running items) b) aborted ∙ aborted_ends (produced_at token (item ∷ items)) n (is_running items) in
        ap (λ (b : Bool). record { page = p.page; left = left_of b n p }) ends

-- the end

not_running : (g a : Bool) → (g && false && not a) ≡ false
not_running true a = refl
not_running false a = refl

no_open : (p : Option Produced) (pages : ℕ) (a : Bool) → is_open p pages false a ≡ false
no_open (Some s) pages a = not_running (are_left s pages) a
no_open None pages a = refl

pub ended_stands : (cause : Cause) (sequences : List Sequence) (items : List RpcItem) → ProducerStands sequences items → ProducerStands (all_ended sequences) (End cause ∷ items)
ended_stands cause sequences items s = record {
  count = length-map sequences ending ∙ (s.count ∙ ap length (sym (produced_same (End cause) items refl)));
  each = λ place.
      slice_get-map ending sequences place
      ∙ (ap (option_map ending) (s.each place)
      ∙ (ended_at (place + 1) (slice_get (produced items) place)
      ∙ sym (ap (λ (ps : List Produced). option_map (sequence_after (place + 1) (End cause ∷ items)) (slice_get ps place)) (produced_same (End cause) items refl))));
}
  where
    ended_at : (token : ℕ) (p : Option Produced) → option_map ending (option_map (sequence_after token items) p) ≡ option_map (sequence_after token (End cause ∷ items)) p
    ended_at token (Some p) =
        let n = page_count token (End cause ∷ items) in
        sym (ap (λ (b : Bool). Some (record { page = p.page; left = left_of b n p })) (no_open (produced_at token (End cause ∷ items)) n (is_aborted token (End cause ∷ items))))
    ended_at token None = refl

-- a token before it is drawn

was_none : (token : ℕ) (item : RpcItem) (items : List RpcItem) → produced_at token (item ∷ items) ≡ None → produced_at token items ≡ None
was_none token item items e = by (produced_at token items) refl
  where
    by : (p : Option Produced) → produced_at token items ≡ p → produced_at token items ≡ None
    by (Some s) h = absurd (cc (e, produced_more token item items s h))
    by None h = h

no_pages : (token : ℕ) (items : List RpcItem) → produced_at token items ≡ None → page_count token items ≡ 0
no_pages token [] e = refl
no_pages token (item ∷ items) e =
    let none = was_none token item items e in
    let dead : is_producing token items ≡ false = ap (λ (p : Option Produced). is_open p (page_count token items) (is_running items) (is_aborted token items)) none in
    not_turned (turns_page token item) (is_producing token items) (page_count token items) (ap (λ (b : Bool). turns_page token item && b) dead ∙ and_false (turns_page token item)) ∙ no_pages token items none

pub unaborted : (token : ℕ) (items : List RpcItem) → produced_at token items ≡ None → is_aborted token items ≡ false
unaborted token [] e = refl
unaborted token (item ∷ items) e =
    let none = was_none token item items e in
    ap (λ (p : Option Produced). is_aborted token items || (is_some p && aborts token item)) none ∙ (or_false (is_aborted token items) true ∙ unaborted token items none)

-- a sequence that is answered

abbrev answering : Id → List Tree → (page first : ℕ) → RpcItem
answering id values page first = Did (Respond id (answer.Sequence values page first))

abbrev produced_as : List Tree → (page first : ℕ) → Produced
produced_as values page first = record { values = values; page = page; first = first }

abbrev kept_as : List Tree → (page first : ℕ) → Sequence
kept_as values page first = record { page = page; left = drop first values }

all_in_result : (id : Id) (values : List Tree) (page first : ℕ) (sequences : List Sequence) (items : List RpcItem) → nat_lt first (length values) ≡ false → ProducerStands sequences items → ProducerStands sequences (answering id values page first ∷ items)
all_in_result id values page first sequences items e s =
    let none : produced_by (answering id values page first) ≡ [] = ap (λ (b : Bool). if b then produced_as values page first ∷ [] else []) e in
    passed sequences (answering id values page first) items none (λ token. untouched token (answering id values page first) items none refl refl refl) s

with_token : (id : Id) (values : List Tree) (page first : ℕ) (sequences : List Sequence) (items : List RpcItem) → is_running items ≡ true → nat_lt first (length values) ≡ true → ProducerStands sequences items → ProducerStands (sequences ++ (kept_as values page first ∷ [])) (answering id values page first ∷ items)
with_token id values page first sequences items runs more s = record {
  count = (let one : length (kept ∷ []) ≡ length (produced_by item) = sym (ap length by) in omega (arith, length-append sequences (kept ∷ []), length-append (produced items) (produced_by item), one, s.count));
  each = λ place. each place (three_ways place (length sequences));
}
  where
    item : RpcItem
    item = answering id values page first

    this : Produced
    this = produced_as values page first

    kept : Sequence
    kept = kept_as values page first

    by : produced_by item ≡ this ∷ []
    by = ap (λ (b : Bool). if b then this ∷ [] else []) more

    -- a token that was drawn before
    earlier : (place : ℕ) (p : Option Produced) → slice_get (produced items) place ≡ p → option_map (sequence_after (place + 1) items) p ≡ option_map (sequence_after (place + 1) (item ∷ items)) p
    earlier place None e = refl
    earlier place (Some p) e =
        let token = place + 1 in
        let at : produced_at token items ≡ Some p = numbered_at token (produced items) (omega arith) ∙ (ap (slice_get (produced items)) (let back : place + 1 - 1 ≡ place = omega arith in back) ∙ e) in
        let lives : is_producing token (item ∷ items) ≡ is_producing token items = lives_as token item items (page_count token items) (is_running items) (is_aborted token items) (produced_more token item items p at ∙ sym at) refl refl (or_false (is_aborted token items) (is_some (produced_at token items))) in
        sym (ap (λ (x : Sequence). Some x) (after_kept token item items (record { pages = refl; lives = lives }) p))

    -- the token that is drawn
    drawn_here : (place : ℕ) → place ≡ length (produced items) → sequence_after (place + 1) (item ∷ items) this ≡ kept
    drawn_here place e =
        let token = place + 1 in
        let back : place + 1 - 1 ≡ place = omega arith in
        let none : produced_at token items ≡ None = numbered_at token (produced items) (omega arith) ∙ (ap (slice_get (produced items)) back ∙ slice_get_past (produced items) place (omega (arith, e))) in
        let at : produced_at token (item ∷ items) ≡ Some this = numbered_at token (produced (item ∷ items)) (omega arith) ∙ (ap₂ (λ (ps : List Produced) (n : ℕ). slice_get (produced items ++ ps) n) by back ∙ get_last (produced items) this place e) in
        let pages : page_count token (item ∷ items) ≡ 0 = no_pages token items none in
        let aborted : is_aborted token (item ∷ items) ≡ false = or_false (is_aborted token items) (is_some (produced_at token items)) ∙ unaborted token items none in
        let from : first + 0 * page ≡ first = omega arith in
        let lives : is_producing token (item ∷ items) ≡ true = (λ i. is_open (at i) (pages i) (runs i) (aborted i)) ∙ (and_true (are_left this 0) ∙ (ap (λ (n : ℕ). nat_lt n (length values)) from ∙ more)) in
        ap₂ (λ (b : Bool) (n : ℕ). record { page = page; left = left_of b n this }) lives pages ∙ ap (λ (n : ℕ). record { page = page; left = drop n values }) from

    each : (place : ℕ) → (place < length sequences) ⊎ ((place ≡ length sequences) ⊎ (length sequences < place)) → slice_get (sequences ++ (kept ∷ [])) place ≡ sequence_at place (item ∷ items)
    each place (inl l) =
        get_before sequences (kept ∷ []) place l
        ∙ (s.each place ∙ (earlier place (slice_get (produced items) place) refl
        ∙ sym (ap (option_map (sequence_after (place + 1) (item ∷ items))) (get_before (produced items) (produced_by item) place (omega (arith, l, s.count))))))
    each place (inr (inl e)) =
        let at : place ≡ length (produced items) = e ∙ s.count in
        let last : slice_get (produced (item ∷ items)) place ≡ Some this = ap (λ (ps : List Produced). slice_get (produced items ++ ps) place) by ∙ get_last (produced items) this place at in
        get_last sequences kept place e
        ∙ sym (ap (option_map (sequence_after (place + 1) (item ∷ items))) last ∙ ap (λ (x : Sequence). Some x) (drawn_here place at))
    each place (inr (inr l)) =
        slice_get_past (sequences ++ (kept ∷ [])) place (omega (arith, l, length-append sequences (kept ∷ [])))
        ∙ sym (ap (option_map (sequence_after (place + 1) (item ∷ items))) (ap (λ (ps : List Produced). slice_get (produced items ++ ps) place) by ∙ slice_get_past (produced items ++ (this ∷ [])) place (omega (arith, l, s.count, length-append (produced items) (this ∷ [])))))

pub produced_stands : (id : Id) (values : List Tree) (page first : ℕ) (sequences : List Sequence) (items : List RpcItem) → is_running items ≡ true → ProducerStands sequences items → ProducerStands (with_sequence values page first sequences) (answering id values page first ∷ items)
produced_stands id values page first sequences items runs s = by (nat_lt first (length values)) refl
  where
    by : (b : Bool) → nat_lt first (length values) ≡ b → ProducerStands (with_sequence values page first sequences) (answering id values page first ∷ items)
    by true e =
        subst (λ (b : Bool). ProducerStands (if b then sequences ++ (kept_as values page first ∷ []) else sequences) (answering id values page first ∷ items)) (sym e)
        (with_token id values page first sequences items runs e s)
    by false e =
        subst (λ (b : Bool). ProducerStands (if b then sequences ++ (kept_as values page first ∷ []) else sequences) (answering id values page first ∷ items)) (sym e)
        (all_in_result id values page first sequences items e s)
