-- How the logic stores a table: each as a stored value, no two as one.
use Rattle.std.specs.Prelude.{◌≡◌, ℕ, ℤ, pos, List, [], Bool, true, false, ◌==◌, if◌then◌else◌, Option, Some, None, refl}
use Rattle.std.specs.Coded.{Coded, code_by, coded×, coded_ℕ, coded_ℤ, coded_bool, coded_list, coded_option}
use Rattle.wire_base.specs.Tree.{Tree}
use Rattle.wire_base.specs.Codes.{coded_tree}
use Rattle.wire_base.specs.declared.text.Id.{Id}
use Rattle.rpc_items.specs.Codes.{coded_id}
use Rattle.rpc_items.specs.declared.calls.Expect.{Expect}
use Rattle.rpc_items.specs.declared.calls.Expect.TheVariants.{Plain, Sequence}
use Rattle.rpc_items.specs.declared.calls.Outcome.{Outcome}
use Rattle.rpc_items.specs.declared.calls.Outcome.TheVariants.{Replied, Failed, Lost, Starved}
use Rattle.call_table.specs.declared.entry.Entry.{Entry}
use Rattle.call_table.specs.declared.entry.Kept.{Kept}
use Rattle.call_table.specs.declared.entry.Kept.TheVariants.{Waiting, Answered, Forgotten}
use Rattle.call_table.specs.Table.{TableValue, kept_by}

-- outcomes

abbrev outcome_parts : Outcome → (ℕ × ℤ) × (List ℕ × Option Tree)
outcome_parts (Replied value) = ((0, pos 0), ([], Some value))
outcome_parts (Failed code text more) = ((1, code), (text, more))
outcome_parts Lost = ((2, pos 0), ([], None))
outcome_parts Starved = ((3, pos 0), ([], None))

abbrev replied_by : Option Tree → Outcome
replied_by (Some value) = Replied value
replied_by None = Lost

abbrev outcome_back : (ℕ × ℤ) × (List ℕ × Option Tree) → Outcome
outcome_back p =
    if p.0.0 == 0 then replied_by p.1.1
    else if p.0.0 == 1 then Failed p.0.1 p.1.0 p.1.1
    else if p.0.0 == 2 then Lost
    else Starved

pub outcome_again : (o : Outcome) → outcome_back (outcome_parts o) ≡ o
outcome_again (Replied value) = refl
outcome_again (Failed code text more) = refl
outcome_again Lost = refl
outcome_again Starved = refl

abbrev coded_outcome : Coded Outcome
coded_outcome = code_by ((ℕ × ℤ) × (List ℕ × Option Tree)) (coded× (coded× coded_ℕ coded_ℤ) (coded× (coded_list coded_ℕ) (coded_option coded_tree))) outcome_parts outcome_back outcome_again

-- requests

abbrev kept_parts : Kept → Bool × Option Outcome
kept_parts Waiting = (true, None)
kept_parts (Answered outcome) = (true, Some outcome)
kept_parts Forgotten = (false, None)

abbrev kept_back : Bool × Option Outcome → Kept
kept_back p = if p.0 then kept_by p.1 else Forgotten

pub kept_again : (k : Kept) → kept_back (kept_parts k) ≡ k
kept_again Waiting = refl
kept_again (Answered outcome) = refl
kept_again Forgotten = refl

abbrev coded_kept : Coded Kept
coded_kept = code_by (Bool × Option Outcome) (coded× coded_bool (coded_option coded_outcome)) kept_parts kept_back kept_again

abbrev is_plain : Expect → Bool
is_plain Plain = true
is_plain Sequence = false

abbrev expect_back : Bool → Expect
expect_back b = if b then Plain else Sequence

pub expect_again : (e : Expect) → expect_back (is_plain e) ≡ e
expect_again Plain = refl
expect_again Sequence = refl

abbrev coded_expect : Coded Expect
coded_expect = code_by Bool coded_bool is_plain expect_back expect_again

-- what was asked for, and what became of it
abbrev coded_entry : Coded Entry
coded_entry = code_by ((Expect × Bool) × ((Kept × Bool) × List Tree)) (coded× (coded× coded_expect coded_bool) (coded× (coded× coded_kept coded_bool) (coded_list coded_tree)))
    (λ e. ((e.expect, e.progress), ((e.kept, e.cancelled), e.reports)))
    (λ p. record { expect = p.0.0; progress = p.0.1; kept = p.1.0.0; cancelled = p.1.0.1; reports = p.1.1 })
    (λ _. refl)

-- a table as its three parts
abbrev pub coded_table : Coded TableValue
coded_table = code_by ((List Entry × Option Outcome) × List Id) (coded× (coded× (coded_list coded_entry) (coded_option coded_outcome)) (coded_list coded_id)) (λ t. ((t.requests, t.rest), t.waiting)) (λ p. record { requests = p.0.0; rest = p.0.1; waiting = p.1 }) (λ _. refl)
