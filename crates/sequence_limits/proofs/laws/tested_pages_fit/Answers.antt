use Rattle.sequence_limits.proofs.Kept.{ended_fit, given_up_fit, kept_fit, page_fits, turned_fit}
use Rattle.sequence_limits.proofs.laws.tested_pages_fit.Goals as goal

pub returns-clause-kept : goal.returns-clause-kept
returns-clause-kept c = kept_fit

pub returns-clause-turned : goal.returns-clause-turned
returns-clause-turned c = turned_fit

pub returns-clause-given_up : goal.returns-clause-given_up
returns-clause-given_up c = given_up_fit

pub returns-clause-ended : goal.returns-clause-ended
returns-clause-ended c = ended_fit

pub returns-clause-page : goal.returns-clause-page
returns-clause-page c = page_fits
