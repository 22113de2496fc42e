use Rattle.std.proofs.Common.{refl, rules}
use Rattle.candidates.proofs.Candidates.each.Goals as goal

pub returns : goal.returns
returns g c =
    record {
      hs = (c.f-self.result, search rules);
      msg1 = (c.f-self-2.result, search rules);
      ack = (c.f-self-3.result, search rules);
      carrier = (c.f-self-4.result, search rules);
      route = (c.f-self-5.result, search rules);
      born = (c.f-self-6.result, search rules);
      deadline = (c.f-self-7.result, search rules);
      bounded = (c.f-self-8.result, search rules);
      bound = (c.f-self-9.result, search rules);
      seq = search rules;
      next = refl;
    }
