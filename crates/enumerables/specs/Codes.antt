-- How the logic stores what is kept of sequences: each as a stored value, no two as one.
use Rattle.std.specs.Prelude.{ℕ, List, Option, refl}
use Rattle.std.specs.Coded.{Coded, code_by, coded×, coded_ℕ, coded_list, coded_option}
use Rattle.wire_base.specs.Tree.{Tree}
use Rattle.wire_base.specs.Codes.{coded_trees}
use Rattle.wire_base.specs.declared.text.Id.{Id}
use Rattle.rpc_items.specs.Codes.{coded_id}
use Rattle.enumerables.specs.declared.followed.Followed.{Followed}
use Rattle.enumerables.specs.declared.sequence.Sequence.{Sequence}

abbrev coded_sequence : Coded Sequence
coded_sequence = code_by (ℕ × List Tree) (coded× coded_ℕ coded_trees) (λ s. (s.page, s.left)) (λ p. record { page = p.0; left = p.1 }) (λ _. refl)

abbrev pub coded_sequences : Coded (List Sequence)
coded_sequences = coded_list coded_sequence

abbrev coded_follow : Coded Followed
coded_follow = code_by ((ℕ × Id) × Option ℕ) (coded× (coded× coded_ℕ coded_id) (coded_option coded_ℕ)) (λ f. ((f.request, f.token), f.turn)) (λ p. record { request = p.0.0; token = p.0.1; turn = p.1 }) (λ _. refl)

abbrev pub coded_followed : Coded (List Followed)
coded_followed = coded_list coded_follow
