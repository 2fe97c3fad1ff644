-- What is kept of the sequences that were answered is what the items tell of their tokens.
use Rattle.std.specs.Prelude.{Bool, true, false, not, ◌&&◌, ◌==◌, nat_lt, nat_le, slice_get, option_map, if◌then◌else◌, pos, negsuc}
use Rattle.std.proofs.Common.{◌≡◌, ℕ, ◌+◌, ◌-◌, ◌*◌, ◌≤◌, List, length, take, drop, refl, sym, ◌∙◌, ap, inl, inr, arith, Option, Some, None, length-drop, le-leb}
use Rattle.std.proofs.lemmas.Bool.{cases_Bool, cases_lt, lt-ltb, ltb-true, lt-leb}
use Rattle.wire_base.specs.Tree.{Tree}
use Rattle.wire_base.specs.declared.text.Id.{Id}
use Rattle.wire_base.specs.declared.text.Id.TheVariants.{Number, Name}
use Rattle.wire_base.proofs.Places.{above_zero}
use Rattle.rpc_items.specs.Drawn.{with_number}
use Rattle.rpc_items.specs.Fitting.{page_to_come}
use Rattle.rpc_items.specs.Ids.{numbered_id}
use Rattle.rpc_items.specs.Items.{RpcItem, is_running}
use Rattle.rpc_items.specs.Pages.{are_left, page_value}
use Rattle.rpc_items.specs.Produced.{Produced, produced, produced_at}
use Rattle.rpc_items.specs.Producing.{is_open, is_aborted, is_producing, page_count, sequence_named}
use Rattle.enumerables.specs.declared.sequence.Sequence.{Sequence}
use Rattle.enumerables.specs.Producer.{has_left, named_in, page_of, page_if, page_at, page_in}
use Rattle.enumerables.specs.Stands.{ProducerStands, left_of, sequence_after, next_page, next_page_of}

-- the sequence with a token

pub numbered : (sequences : List Sequence) (items : List RpcItem) (token : ℕ) → ProducerStands sequences items → with_number token sequences ≡ option_map (sequence_after token items) (produced_at token items)
numbered sequences items token s = elim (cases_Bool (token == 0)) [
  | inl e ↦ rw e refl
  | inr e ↦ rw e (s.each (token - 1) ∙ (let back : token - 1 + 1 ≡ token = omega (arith, above_zero token e) in ap (λ (n : ℕ). option_map (sequence_after n items) (slice_get (produced items) (token - 1))) back))
]

-- values are left exactly while a token lives

left_some : (lives : Bool) (pages : ℕ) (s : Produced) → (lives ≡ true → are_left s pages ≡ true) → nat_lt 0 (length (left_of lives pages s)) ≡ lives
left_some true pages s left =
    let within = ltb-true (s.first + pages * s.page) (length s.values) (left refl) in
    lt-ltb 0 (length (drop (s.first + pages * s.page) s.values)) (omega (arith, length-drop (s.first + pages * s.page) s.values, within))
left_some false pages s left = refl

pub first_part : (g r a : Bool) → (g && r && not a) ≡ true → g ≡ true
first_part true r a e = refl
first_part false r a e = absurd (cc e)

pub middle_part : (g r a : Bool) → (g && r && not a) ≡ true → r ≡ true
middle_part true true a e = refl
middle_part true false a e = absurd (cc e)
middle_part false r a e = absurd (cc e)

pub last_part : (g r a : Bool) → (g && r && not a) ≡ true → a ≡ false
last_part true true false e = refl
last_part true true true e = absurd (cc e)
last_part true false a e = absurd (cc e)
last_part false r a e = absurd (cc e)

lives_by : (p : Option Produced) (pages : ℕ) (r a : Bool) → has_left (option_map (λ (s : Produced). record { page = s.page; left = left_of (is_open p pages r a) pages s }) p) ≡ is_open p pages r a
lives_by (Some s) pages r a = left_some (is_open (Some s) pages r a) pages s (first_part (are_left s pages) r a)
lives_by None pages r a = refl

pub lives : (sequences : List Sequence) (items : List RpcItem) (token : ℕ) → ProducerStands sequences items → has_left (with_number token sequences) ≡ is_producing token items
lives sequences items token s = ap has_left (numbered sequences items token s) ∙ lives_by (produced_at token items) (page_count token items) (is_running items) (is_aborted token items)

pub names : (sequences : List Sequence) (items : List RpcItem) (id : Id) → ProducerStands sequences items → named_in id sequences ≡ sequence_named id items
names sequences items (Number (pos token)) s = ap (λ (b : Bool). if b then Some token else None) (lives sequences items token s)
names sequences items (Number (negsuc n)) s = refl
names sequences items (Name t) s = refl

-- a token that is named is the id's, and lives

named : (b : Bool) (k t : ℕ) → (if b then Some k else None) ≡ Some t → (b ≡ true) × (k ≡ t)
named true k t e = (refl, cc e)
named false k t e = absurd (cc e)

pub named_parts : (id : Id) (items : List RpcItem) (token : ℕ) → sequence_named id items ≡ Some token → (is_producing token items ≡ true) × (id ≡ numbered_id token)
named_parts (Number (pos k)) items token e =
    let parts = named (is_producing k items) k token e in
    (ap (λ (j : ℕ). is_producing j items) (sym parts.1) ∙ parts.0, ap numbered_id parts.1)
named_parts (Number (negsuc k)) items token e = absurd (cc e)
named_parts (Name s) items token e = absurd (cc e)

-- a page that is the next

finished : (k page : ℕ) (s : Produced) → nat_le (length (drop k s.values)) page ≡ not (nat_lt (k + page) (length s.values))
finished k page s = elim (cases_lt (k + page) (length s.values)) [
  | inl l ↦ rw (lt-ltb (k + page) (length s.values) l) (lt-leb (length (drop k s.values)) page (omega (arith, length-drop k s.values, l)))
  | inr l ↦ rw (not_below (k + page) (length s.values) l) (le-leb (length (drop k s.values)) page (omega (arith, length-drop k s.values, l)))
]
  where
    not_below : (m n : ℕ) → n ≤ m → nat_lt m n ≡ false
    not_below m n le = elim (cases_Bool (nat_lt m n)) [ inl b ↦ absurd (let l = ltb-true m n b in omega (arith, l, le)) | inr b ↦ b ]

next_of : (s : Produced) (pages : ℕ) → page_of (record { page = s.page; left = left_of true pages s }) ≡ page_to_come (Some s) pages
next_of s pages = ap (λ (b : Bool). page_value b (take s.page (drop (s.first + pages * s.page) s.values)))
    (finished (s.first + pages * s.page) s.page s ∙ ap (λ (n : ℕ). not (nat_lt n (length s.values))) (let next : s.first + pages * s.page + s.page ≡ s.first + (pages + 1) * s.page = omega arith in next))

page_by : (p : Option Produced) (pages : ℕ) (r a : Bool) → is_open p pages r a ≡ true → page_if (option_map (λ (s : Produced). record { page = s.page; left = left_of (is_open p pages r a) pages s }) p) ≡ Some (page_to_come p pages)
page_by (Some s) pages r a e = ap (λ (b : Bool). Some (page_of (record { page = s.page; left = left_of b pages s }))) e ∙ ap (λ (t : Tree). Some t) (next_of s pages)
page_by None pages r a e = absurd (cc e)

pub pages_as : (sequences : List Sequence) (items : List RpcItem) (id : Id) → ProducerStands sequences items → page_in id sequences ≡ next_page id items
pages_as sequences items id s = ap (λ (o : Option ℕ). page_at o sequences) (names sequences items id s) ∙ by (sequence_named id items) refl
  where
    by : (o : Option ℕ) → sequence_named id items ≡ o → page_at o sequences ≡ next_page_of o items
    by None e = refl
    by (Some token) e =
        ap page_if (numbered sequences items token s)
        ∙ page_by (produced_at token items) (page_count token items) (is_running items) (is_aborted token items) (named_parts id items token e).0
