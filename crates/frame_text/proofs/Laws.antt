-- The laws of fronts and spellings, to be cited from crates above.
pub use Rattle.frame_text.proofs.Within.{front_within, broken_within, front_near, broken_near}
pub use Rattle.frame_text.proofs.Steady.{front_stays, broken_stays, front_cut}
pub use Rattle.frame_text.proofs.Again.{spelled_front}
pub use Rattle.frame_text.proofs.Found.{front_spelled}
pub use Rattle.frame_text.proofs.Texts.{text_is}
pub use Rattle.frame_text.proofs.Shortest.{front_fits, spelled_fits}
pub use Rattle.frame_text.proofs.Every.{every_front_spelled, every_spelled_front, every_text_is, every_spelled_fits, every_front_fits, every_front-text, text-shortest, one_spelling}
pub use Rattle.frame_text.proofs.Refused.{broken_first, first_broken}

pub ruleset withins = (front_within, broken_within, front_near, broken_near)

pub ruleset stays = (front_stays, broken_stays, front_cut)

pub ruleset spellings = (every_front_spelled, every_spelled_front, every_front-text, text-shortest, one_spelling)
