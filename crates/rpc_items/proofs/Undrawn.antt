-- Requests that are drawn, and those that aren't.
use Rattle.std.specs.Prelude.{◌&&◌, Bool, true, false, nat_lt, nat_le, is_some, if◌then◌else◌}
use Rattle.std.proofs.Common.{◌≡◌, ℕ, ◌+◌, ◌<◌, List, [], ◌∷◌, ◌∙◌, refl, inl, inr, arith, Option, None}
use Rattle.std.proofs.lemmas.Bool.{and_parts, cases_Bool, leb-true}
use Rattle.wire_base.specs.declared.state.Cause.{Cause}
use Rattle.wire_base.specs.Options.{or_else}
use Rattle.rpc_items.specs.declared.calls.Outcome.{Outcome}
use Rattle.rpc_items.specs.Items.{RpcCall, RpcItem, Did, End, is_running}
use Rattle.rpc_items.specs.Drawn.{asked, asked_at, drawn, is_drawn}
use Rattle.rpc_items.specs.Outcomes.{answer_to, response_to}
use Rattle.rpc_items.proofs.Numbered.{numbered_some}
use Rattle.rpc_items.proofs.Reported.{undrawn_before}
use Rattle.rpc_items.proofs.Settling.{same}

pub drawn_some : (n : ℕ) (items : List RpcItem) → is_drawn n items ≡ is_some (asked_at n items)
drawn_some n items = numbered_some n (asked items)

-- a request above the last number isn't drawn

pub not_drawn : (n d : ℕ) → d < n → (nat_lt 0 n && nat_le n d) ≡ false
not_drawn n d l = elim (cases_Bool (nat_lt 0 n && nat_le n d)) [
  | inl h ↦ absurd (let le = leb-true n d (and_parts (nat_lt 0 n) (nat_le n d) h).1 in omega (arith, le, l))
  | inr h ↦ h
]

pub next_undrawn : (items : List RpcItem) → is_drawn (drawn items + 1) items ≡ false
next_undrawn items = not_drawn (drawn items + 1) (drawn items) (omega arith)

-- one that isn't drawn has no answer

no_drawing : (b c : Bool) (a o : Option Outcome) → c ≡ false → (if b && c then or_else a o else a) ≡ a
no_drawing true true a o e = absurd (cc e)
no_drawing true false a o e = refl
no_drawing false c a o e = refl

pub unanswered_undrawn : (n : ℕ) (items : List RpcItem) → is_drawn n items ≡ false → answer_to n items ≡ None
unanswered_undrawn n [] e = refl
unanswered_undrawn n (item ∷ items) e =
    let before = undrawn_before n item items e in
    no_drawing (is_running items) (is_drawn n items) (answer_to n items) (response_to n item) before ∙ unanswered_undrawn n items before

-- neither a call nor the end changes an answer

pub call_same : (n : ℕ) (call : RpcCall) (items : List RpcItem) → answer_to n (Did call ∷ items) ≡ answer_to n items
call_same n call items = same (is_running items && is_drawn n items) (answer_to n items)

pub end_same : (n : ℕ) (cause : Cause) (items : List RpcItem) → answer_to n (End cause ∷ items) ≡ answer_to n items
end_same n cause items = same (is_running items && is_drawn n items) (answer_to n items)
