-- A message that is written as a body is read again.
use Rattle.std.specs.Prelude.{if◌then◌else◌, ◌&&◌, nat_lt, nat_le, Bool, true, false}
use Rattle.std.proofs.Common.{◌≡◌, ◌≤◌, length, refl, ◌∙◌, ap, arith, Some, None, Ok, inl, inr}
use Rattle.std.proofs.lemmas.Bool.{and_parts, cases_Bool, leb-true, ltb-false}
use Rattle.wire_base.specs.Tree.{Tree, nil, flag, whole, words, bytes, items, pairs, Trees, no_items, item, Pairs, no_pairs, pair}
use Rattle.wire_base.specs.Values.{max_nesting, nesting, holds_bytes}
use Rattle.wire_base.specs.declared.refusal.Refusal.{Refusal}
use Rattle.wire_base.specs.declared.refusal.Refusal.TheVariants as refusal
use Rattle.json_value.specs.Json.{json_text}
use Rattle.json_value.specs.Value.{IsValue, AreValues, ArePairs}
use Rattle.json_value.proofs.TextLemmas.{IsReading-json_text}
use Rattle.json_value.specs.Normal.{norm}
use Rattle.pack_value.specs.Shortest as pack
use Rattle.pack_value.specs.Shortest.{shortest, lengths_fit, item_lengths_fit, pair_lengths_fit}
use Rattle.pack_value.specs.Spelling.{count, pair_count, max_len}
use Rattle.pack_value.proofs.Spelled.{shortest_is_spelling}
use Rattle.rpc_items.specs.Bodies.{Encoder, most_body, most_nested, body_refusal}
use Rattle.rpc_items.specs.Writing.{message_value}
use Rattle.rpc_items.specs.declared.messages.Message.{Message}
use Rattle.rpc_items.proofs.Reading.{written}
use Rattle.message_body.specs.declared.encoding.Encoding.{Encoding}
use Rattle.message_body.specs.declared.encoding.Encoding.TheVariants.{Json, Pack}
use Rattle.message_body.specs.AsRead.{as_read, IsWritable}
use Rattle.message_body.specs.Found.{at_start, message_found, body_in}
use Rattle.message_body.specs.Written.{encoder, body_text}
use Rattle.message_body.proofs.Norms.{norm_says}
use Rattle.message_body.proofs.Readings.{reading_found}
use Rattle.message_body.proofs.Sizes.{too_long}
use Rattle.message_body.proofs.Spellings.{spelling_found}

-- ---- what no rule refuses

none_holds : (a b c : Bool) (x y z : Refusal) → (if a then Some x else if b then Some y else if c then Some z else None) ≡ None → (a ≡ false) × (b ≡ false) × (c ≡ false)
none_holds true b c x y z e = absurd (cc e)
none_holds false true c x y z e = absurd (cc e)
none_holds false false true x y z e = absurd (cc e)
none_holds false false false x y z e = (refl, refl, refl)

-- a value that can be a body
record IsFitting (k : Encoder) (t : Tree) : Type 0 where
  bytes : (k.json && holds_bytes t) ≡ false
  nests : nesting t ≤ max_nesting
  size : k.size t ≤ most_body

fitting : (k : Encoder) (t : Tree) → body_refusal k t ≡ None → IsFitting k t
fitting k t e =
    let parts = none_holds (k.json && holds_bytes t) (nat_lt most_nested (nesting t)) (nat_lt most_body (k.size t)) refusal.BytesInJson refusal.TooDeep refusal.BodyTooLong e in
    record { bytes = parts.0; nests = ltb-false most_nested (nesting t) parts.1; size = ltb-false most_body (k.size t) parts.2 }

-- ---- values whose lengths fit

mutual
  spellable : (t : Tree) → IsValue t → lengths_fit t ≡ true → pack.IsValue t
  spellable nil v h = tt
  spellable (flag b) v h = tt
  spellable (whole z) v h = v
  spellable (words s) v h = (leb-true (length s) max_len h, v)
  spellable (bytes s) v h = leb-true (length s) max_len h
  spellable (items ts) v h =
      let parts = and_parts (nat_le (count ts) max_len) (item_lengths_fit ts) h in
      (leb-true (count ts) max_len parts.0, items_spellable ts v parts.1)
  spellable (pairs ps) v h =
      let parts = and_parts (nat_le (pair_count ps) max_len) (pair_lengths_fit ps) h in
      (leb-true (pair_count ps) max_len parts.0, pairs_spellable ps v parts.1)

  items_spellable : (ts : Trees) → AreValues ts → item_lengths_fit ts ≡ true → pack.AreValues ts
  items_spellable no_items v h = tt
  items_spellable (item t ts) v h =
      let parts = and_parts (lengths_fit t) (item_lengths_fit ts) h in
      (spellable t v.0 parts.0, items_spellable ts v.1 parts.1)

  pairs_spellable : (ps : Pairs) → ArePairs ps → pair_lengths_fit ps ≡ true → pack.ArePairs ps
  pairs_spellable no_pairs v h = tt
  pairs_spellable (pair k t ps) v h =
      let parts = and_parts (nat_le (length k) max_len && lengths_fit t) (pair_lengths_fit ps) h in
      let first = and_parts (nat_le (length k) max_len) (lengths_fit t) parts.0 in
      (((leb-true (length k) max_len first.0, v.0), spellable t v.1 first.1), pairs_spellable ps v.2 parts.1)

-- what isn't too long as a whole has no part that is too long
parts_fit : (t : Tree) → length (shortest t) ≤ most_body → lengths_fit t ≡ true
parts_fit t h = elim (cases_Bool (lengths_fit t)) [
  | inl e ↦ e
  | inr e ↦ absurd (let long = too_long t e in omega (arith, h, long))
]

-- ---- bodies

pub body_within : (e : Encoding) (m : Message) → IsWritable e m → length (body_text e m) ≤ most_body
body_within e m w = (fitting (encoder e) (message_value m) w.accepted).size

pub read_again : (e : Encoding) (m : Message) → IsWritable e m → body_in e (body_text e m) ≡ Ok (as_read e m)
read_again Json m w =
    let t = message_value m in
    let fits = fitting (encoder Json) t w.accepted in
    let found = reading_found (json_text t) (norm t) (IsReading-json_text t w.message.value fits.nests fits.bytes) in
    ap (λ x. message_found (at_start x)) found ∙ ap at_start (norm_says t m (written m w.message.can_be_told))
read_again Pack m w =
    let t = message_value m in
    let fits = fitting (encoder Pack) t w.accepted in
    let spelled = shortest_is_spelling t (spellable t w.message.value (parts_fit t fits.size)) fits.nests in
    ap message_found (spelling_found (shortest t) t spelled) ∙ ap at_start (written m w.message.can_be_told)
