use Rattle.std.proofs.Common.{map, ap, ◌∙◌}
use Rattle.pipeline.specs.States.{call_of}
use Rattle.pipeline.proofs.Fields.{Fields, IsPark, park_fits, park_keeps, parked_are, parked_on}
use Rattle.pipeline.proofs.rounds.Rounds.park.Goals as goal

pub park_all-requires-clause-few : goal.park_all-requires-clause-few
park_all-requires-clause-few c =
    park_fits _ c.args.self.now c.requires.next.0 c.args.job.now c.items.result.now c.self.view_is c.self.invariant c.requires.rounds
    c.requires.next.1 c.items.ensures

abbrev fields : goal.After-self-2-1 → Fields
fields c = record {
  before = record { next = c.self.inside.next; queue = c.self.inside.queue.items; numbers = c.self.inside.numbers };
  segs = c.items.result.now;
  ends = c.args.ends.now;
  new = c.in_ok-parked.parked;
  pushed = c.push_back.new.self.items;
  popped = c.pop_front.new.self.items;
  numbers = c.park_all.new.numbers;
}

is_park : (c : goal.After-self-2-1) → IsPark c.args.self.now c.args.job.now (fields c)
is_park c = record {
  same = c.self.view_is;
  kept = c.self.invariant;
  segs = c.items.ensures;
  new = c.in_ok-parked.ensures.parked;
  numbers = c.in_ok-parked.ensures.numbers;
  pushed = c.in_ok-push_back.ensures.items;
  popped = c.pop_front.ensures.rest;
}

pub invariant_of-self-2 : goal.invariant_of-self-2
invariant_of-self-2 c =
    park_keeps c.args.self.now c.requires.next.0 c.args.job.now (fields c) (is_park c) c.requires.next.1 c.requires.rounds c.requires.each

pub returns-clause-ok : goal.returns-clause-ok
returns-clause-ok c = λ fresh n. parked_on c.args.self.now fresh c.args.job.now (fields c) (is_park c) n

pub returns-clause-calls : goal.returns-clause-calls
returns-clause-calls c = λ fresh n.
    c.in_ok-calls.ensures.calls
    ∙ ap (map call_of) (c.items-2.ensures ∙ parked_are c.args.self.now fresh c.args.job.now (fields c) (is_park c) n)
