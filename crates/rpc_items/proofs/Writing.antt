-- What the connection answers by itself can be written.
use Rattle.std.specs.Prelude.{if◌then◌else◌, ◌&&◌, ◌||◌, Bool, true, false, nat_lt, max, codes, ℤ, pos, negsuc}
use Rattle.std.proofs.Common.{◌≡◌, ℕ, ◌+◌, ◌≤◌, List, [], ◌∷◌, length, refl, sym, ◌∙◌, ap, arith, Option, Some, None}
use Rattle.wire_base.specs.Tree.{Tree}
use Rattle.wire_base.specs.declared.refusal.Refusal.TheVariants as refusal
use Rattle.wire_base.specs.declared.text.Id.{Id}
use Rattle.wire_base.specs.declared.text.Id.TheVariants.{Number, Name}
use Rattle.rpc_items.specs.declared.messages.Message.TheVariants as message
use Rattle.rpc_items.specs.Ids.{is_id_number}
use Rattle.wire_base.specs.Values.{nesting, holds_bytes}
use Rattle.rpc_items.specs.Writing.{message_value}
use Rattle.rpc_items.specs.declared.methods.Meaning.{Meaning}
use Rattle.rpc_items.specs.declared.methods.Meaning.TheVariants.{Serves, Turns, Calls, Mistakes, Unknown}
use Rattle.rpc_items.specs.Items.{RpcItem}
use Rattle.rpc_items.specs.Produced.{Produced, produced_at}
use Rattle.rpc_items.specs.OwnHandles.{own_live}
use Rattle.rpc_items.specs.Producing.{page_count, is_producing, sequence_named}
use Rattle.rpc_items.specs.Automatic.{done, fault, nothing_there, bad_arguments, no_method, page_by, turned, automatic}
use Rattle.rpc_items.specs.Bodies.{Encoder, most_nested, body_refusal}
use Rattle.rpc_items.specs.Allowed.{AreAllowed}
use Rattle.rpc_items.specs.Fitting.{Fits, page_to_come, IsNamed, IsFair, AreWritable}
use Rattle.rpc_items.proofs.Fitting.{pages_fit}

none_of : (b d s : Bool) → b ≡ false → d ≡ false → s ≡ false → (if b then Some refusal.BytesInJson else if d then Some refusal.TooDeep else if s then Some refusal.BodyTooLong else None) ≡ None
none_of true d s p q r = absurd (cc p)
none_of false true s p q r = absurd (cc q)
none_of false false true p q r = absurd (cc r)
none_of false false false p q r = refl

and_no : (j : Bool) → (j && false) ≡ false
and_no true = refl
and_no false = refl

done_fits : (k : Encoder) (id : Id) → IsFair k → IsNamed id → body_refusal k (message_value (done id)) ≡ None
done_fits k (Number z) f n = none_of (k.json && false) false _ (and_no k.json) refl (f.nil (Number z) n)
done_fits k (Name s) f n = none_of (k.json && false) false _ (and_no k.json) refl (f.nil (Name s) n)

fault_fits : (k : Encoder) (id : Id) (code : ℤ) (text : List ℕ) → IsFair k → IsNamed id → is_id_number code ≡ true → length text ≤ 16 → body_refusal k (message_value (fault id code text)) ≡ None
fault_fits k (Number z) code text f n c l = none_of (k.json && false) false _ (and_no k.json) refl (f.fault (Number z) code text n c l)
fault_fits k (Name s) code text f n c l = none_of (k.json && false) false _ (and_no k.json) refl (f.fault (Name s) code text n c l)

or_false : (b : Bool) → (b || false) ≡ b
or_false true = refl
or_false false = refl

deep : (n : ℕ) → max 0 (max 0 (max n 0)) + 1 ≡ n + 1
deep n = omega arith

pub page_ok : (k : Encoder) (id : Id) (page : Tree) → IsFair k → IsNamed id → Fits k page → body_refusal k (message_value (message.Result id page)) ≡ None
page_ok k (Number z) page f n t = none_of _ _ _ (ap (λ b. k.json && b) (or_false (holds_bytes page)) ∙ t.bytes) (ap (nat_lt most_nested) (deep (nesting page)) ∙ t.depth) (f.page (Number z) page n t.size)
page_ok k (Name s) page f n t = none_of _ _ _ (ap (λ b. k.json && b) (or_false (holds_bytes page)) ∙ t.bytes) (ap (nat_lt most_nested) (deep (nesting page)) ∙ t.depth) (f.page (Name s) page n t.size)

if_named : (b : Bool) (k token : ℕ) → (if b then Some k else None) ≡ Some token → (b ≡ true) × (k ≡ token)
if_named true k token e = (refl, cc e)
if_named false k token e = absurd (cc e)

token_lives : (named : Id) (items : List RpcItem) (token : ℕ) → sequence_named named items ≡ Some token → is_producing token items ≡ true
token_lives (Number (pos k)) items token e = (let parts = if_named (is_producing k items) k token e in ap (λ j. is_producing j items) (sym parts.1) ∙ parts.0)
token_lives (Number (negsuc k)) items token e = absurd (cc e)
token_lives (Name s) items token e = absurd (cc e)

turned_fits : (k : Encoder) (id named : Id) (items : List RpcItem) → IsFair k → AreAllowed k items → IsNamed id → AreWritable k (turned id (sequence_named named items) items)
turned_fits k id named items f a n = by (sequence_named named items) refl
  where
    to : (token : ℕ) (s : Option Produced) → Fits k (page_to_come s (page_count token items)) → AreWritable k (page_by id s (page_count token items))
    to token (Some s) t = (page_ok k id (page_to_come (Some s) (page_count token items)) f n t, tt)
    to token None t = tt

    by : (token : Option ℕ) → sequence_named named items ≡ token → AreWritable k (turned id token items)
    by (Some token) e = to token (produced_at token items) (pages_fit k token items a (token_lives named items token e))
    by None e = (fault_fits k id nothing_there (codes "no sequence") f n refl (omega arith), tt)

pub automatic_fits : (k : Encoder) (id : Id) (m : Meaning) (items : List RpcItem) → IsFair k → AreAllowed k items → IsNamed id → AreWritable k (automatic id m items)
automatic_fits k id Serves items f a n = tt
automatic_fits k id (Turns token) items f a n = turned_fits k id token items f a n
automatic_fits k id (Calls handle method) items f a n = by (own_live handle items)
  where
    by : (b : Bool) → AreWritable k (if b then [] else fault id nothing_there (codes "no object") ∷ [])
    by true = tt
    by false = (fault_fits k id nothing_there (codes "no object") f n refl (omega arith), tt)
automatic_fits k id Mistakes items f a n = (fault_fits k id bad_arguments (codes "bad arguments") f n refl (omega arith), tt)
automatic_fits k id Unknown items f a n = (fault_fits k id no_method (codes "no method") f n refl (omega arith), tt)
automatic_fits k id m items f a n = (done_fits k id f n, tt)
