use Rattle.std.proofs.Common.{Err, refl, ap, ◌∙◌, rules}
use Rattle.faults.specs.declared.ReadFault.{ReadFault}
use Rattle.records.specs.Records.{Read}
use Rattle.records.proofs.Arms.{arm, stop}
use Rattle.records.proofs.reader.take_apart.Goals as goal

abbrev err : ReadFault → Read
err f = Err f

pub returns-in-1 : goal.returns-in-1
returns-in-1 c = arm c.args.place c.args.bytes.now 1 _ refl (search rules) (search rules) (search rules)

pub returns-in-2 : goal.returns-in-2
returns-in-2 c = arm c.args.place c.args.bytes.now 2 _ refl (search rules) (search rules) refl

pub returns-in-3 : goal.returns-in-3
returns-in-3 c = arm c.args.place c.args.bytes.now 3 _ refl (search rules) (search rules) refl

pub returns-in-4 : goal.returns-in-4
returns-in-4 c = arm c.args.place c.args.bytes.now 4 _ refl (search rules) (search rules) refl

pub returns-in-5 : goal.returns-in-5
returns-in-5 c = arm c.args.place c.args.bytes.now 5 _ refl (search rules) (search rules) refl

pub returns-in-6 : goal.returns-in-6
returns-in-6 c = arm c.args.place c.args.bytes.now 6 _ refl (search rules) (search rules) refl

pub returns-in-7 : goal.returns-in-7
returns-in-7 c = arm c.args.place c.args.bytes.now 7 _ refl (search rules) (search rules) refl

pub returns-in-8 : goal.returns-in-8
returns-in-8 c = arm c.args.place c.args.bytes.now 8 _ refl (search rules) (search rules) refl

pub returns-in-9 : goal.returns-in-9
returns-in-9 c = arm c.args.place c.args.bytes.now 9 _ refl (search rules) (search rules) refl

pub returns-in-10 : goal.returns-in-10
returns-in-10 c = arm c.args.place c.args.bytes.now 10 _ refl (search rules) (search rules) (search rules)

pub returns-in-11 : goal.returns-in-11
returns-in-11 c = arm c.args.place c.args.bytes.now 11 _ refl (search rules) (search rules) (search rules)

pub returns-in-12 : goal.returns-in-12
returns-in-12 c = arm c.args.place c.args.bytes.now 12 _ refl (search rules) (search rules) (search rules)

pub returns-in-13 : goal.returns-in-13
returns-in-13 c = arm c.args.place c.args.bytes.now 13 _ refl (search rules) (search rules) refl

pub returns-in-14 : goal.returns-in-14
returns-in-14 c = arm c.args.place c.args.bytes.now 14 _ refl (search rules) (search rules) (search rules)

pub returns-in-15 : goal.returns-in-15
returns-in-15 c = arm c.args.place c.args.bytes.now 15 _ refl (search rules) (search rules) refl

pub returns-in-16 : goal.returns-in-16
returns-in-16 c = arm c.args.place c.args.bytes.now 16 _ refl (search rules) (search rules) refl

pub returns-in-17 : goal.returns-in-17
returns-in-17 c = arm c.args.place c.args.bytes.now 17 _ refl (search rules) (search rules) (search rules)

pub returns-in-len1-up : goal.returns-in-len1-up
returns-in-len1-up c = ap err c.fault.ensures ∙ stop c.args.place c.args.bytes.now (search rules) (search rules)
