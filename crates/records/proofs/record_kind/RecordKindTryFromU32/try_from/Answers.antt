-- `records::record_kind::RecordKind::try_from` meets its contract: a kind for each number from 1, and none for another (specs/RecordKindLaws.antt).
use native.Mathlib.Omega.{arith}
use Rattle.records.specs.RecordKind.{kind_numbered}
use Rattle.records.specs.RecordKindLaws.{kind_numbered-at, kind_numbered-other}
use Rattle.records.proofs.record_kind.RecordKindTryFromU32.try_from.Goals as goal

-- fn try_from(number: u32) -> Result<RecordKind, UnknownKind>
pub returns-in-1 : goal.returns-in-1
unfolding kind_numbered
returns-in-1 c = record { outcome = kind_numbered-at 1 c.args.number (omega arith) }

pub returns-in-2 : goal.returns-in-2
unfolding kind_numbered
returns-in-2 c = record { outcome = kind_numbered-at 2 c.args.number (omega arith) }

pub returns-in-3 : goal.returns-in-3
unfolding kind_numbered
returns-in-3 c = record { outcome = kind_numbered-at 3 c.args.number (omega arith) }

pub returns-in-4 : goal.returns-in-4
unfolding kind_numbered
returns-in-4 c = record { outcome = kind_numbered-at 4 c.args.number (omega arith) }

pub returns-in-5 : goal.returns-in-5
unfolding kind_numbered
returns-in-5 c = record { outcome = kind_numbered-at 5 c.args.number (omega arith) }

pub returns-in-6 : goal.returns-in-6
unfolding kind_numbered
returns-in-6 c = record { outcome = kind_numbered-at 6 c.args.number (omega arith) }

pub returns-in-7 : goal.returns-in-7
unfolding kind_numbered
returns-in-7 c = record { outcome = kind_numbered-at 7 c.args.number (omega arith) }

pub returns-in-8 : goal.returns-in-8
unfolding kind_numbered
returns-in-8 c = record { outcome = kind_numbered-at 8 c.args.number (omega arith) }

pub returns-in-9 : goal.returns-in-9
unfolding kind_numbered
returns-in-9 c = record { outcome = kind_numbered-at 9 c.args.number (omega arith) }

pub returns-in-10 : goal.returns-in-10
unfolding kind_numbered
returns-in-10 c = record { outcome = kind_numbered-at 10 c.args.number (omega arith) }

pub returns-in-11 : goal.returns-in-11
unfolding kind_numbered
returns-in-11 c = record { outcome = kind_numbered-at 11 c.args.number (omega arith) }

pub returns-in-12 : goal.returns-in-12
unfolding kind_numbered
returns-in-12 c = record { outcome = kind_numbered-at 12 c.args.number (omega arith) }

pub returns-in-13 : goal.returns-in-13
unfolding kind_numbered
returns-in-13 c = record { outcome = kind_numbered-at 13 c.args.number (omega arith) }

pub returns-in_default : goal.returns-in_default
returns-in_default c = record { outcome = kind_numbered-other c.args.number c.in_default.in_default-own.rest }
