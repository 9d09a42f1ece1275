use Rattle.std.proofs.Common.{◌≡◌, inl, inr, ℕ, ◌+◌, List, ◌++◌, append-nil, length, sym, ap, ◌∙◌, subst, arith}
use Rattle.std.proofs.lemmas.List.{with_items_is}
use Rattle.std.specs.List.{count_by}
use Rattle.std.specs.Vec.{with_items}
use Rattle.legal_steps.specs.declared.event.Event.{Event}
use Rattle.interleaving.specs.World.{WorldView}
use Rattle.reasons.specs.Deeds.{is_deed}
use Rattle.settling.proofs.Worlds.{leads_both}
use Rattle.settling.proofs.Deeds.{deeds_both}
use Rattle.late_thirst.specs.Outside.{LineView}
use Rattle.live_lab.specs.declared.clock.Clock.{Clock}
use Rattle.live_lab.specs.declared.settle.Came.{Came}
use Rattle.live_lab.specs.Labs.{LabView}
use Rattle.live_lab.specs.Sets.{AreJobs}
use Rattle.live_lab.specs.Counting.{AreTurnsCounted}
use Rattle.live_lab.specs.Settles.{IsOutOfPatience, SettlesAtOnce, Settles}
use Rattle.live_lab.specs.Admitting.{NobodyIsOutside}
use Rattle.live_lab.proofs.AtOnce.{all_ask, in_at_once, never}
use Rattle.live_lab.proofs.Clocks.{are_counted}
use Rattle.live_lab.proofs.InLab.{lab_on, both_on}
use Rattle.lab_plan.specs.LabPlan.{LabPlan}
use Rattle.lab_plan.specs.InstrumentSets.{holds}
use Rattle.legal_steps.specs.declared.phase.Drinking.TheVariants.{Thirsty}
use Rattle.legal_steps.specs.State.{Has, phase, drinking}
use Rattle.legal_steps.specs.Legal.{IsJob}
use Rattle.live_lab.specs.declared.words.Word.TheVariants.{GivesUp}
use Rattle.live_lab.proofs.Bits.{holds_has}
use Rattle.live_lab.proofs.Lawful.{not_true, others_go, holding_goes, thirsty_holds_nothing, asked_right}
use Rattle.live_lab.proofs.Retirement.{retired_has_none}
use Rattle.live_lab.proofs.Told.{seats_in, seats_before, each_told}
use Rattle.live_lab.proofs.lab.Lab.settle.Goals as goal

-- the sum of the counts of four lists
sum_of : (a b c d : List Event) (k m l n o : ℕ) → l ≡ n + o → k ≡ count_by is_deed a → m ≡ count_by is_deed b → n ≡ count_by is_deed c → o ≡ count_by is_deed d
    → k + m + l ≡ count_by is_deed (a ++ b ++ c ++ d)
sum_of a b c d k m l n o says p q r s =
    let one : count_by is_deed (a ++ b ++ c ++ d) ≡ count_by is_deed (a ++ b ++ c) + count_by is_deed d = deeds_both (a ++ b ++ c) d in
    let two : count_by is_deed (a ++ b ++ c) ≡ count_by is_deed (a ++ b) + count_by is_deed c = deeds_both (a ++ b) c in
    let three : count_by is_deed (a ++ b) ≡ count_by is_deed a + count_by is_deed b = deeds_both a b in
    omega (arith, says, p, q, r, s, one, two, three)

thirsty_ones : (clocks : List Clock) (w : WorldView) (set j : ℕ) → AreJobs w.plan set (IsOutOfPatience clocks w) → IsJob w.plan j → Has set j
    → drinking w.state j ≡ Thirsty
thirsty_ones clocks w set j are job has = ((are.just j job).0 has).0.1

pub admit-second-requires-clause-askers : goal.admit-second-requires-clause-askers
admit-second-requires-clause-askers c = asked_right c.args.waiting c.come_to_rest-first.new.world c.self.inside.line c.ask.new.line c.ask.ensures

pub give_up-third-requires-clause-may : goal.give_up-third-requires-clause-may
give_up-third-requires-clause-may c j job has = ((c.jobs_of-given_up.ensures.just j job).0 has).0

pub invariant_of-self : goal.invariant_of-self
invariant_of-self c =
    let x = c.self.inside in
    let w0 = x.world in let w1 = c.come_to_rest-first.new.world in let w3 = c.admit-second.new.world in
    let gives = c.give_up-third.ensures.gives in let w4 = gives.left in let w5 = c.give_up-third.new.world in
    let r1 = c.come_to_rest-first.ensures.rests in let a2 = c.admit-second.ensures.admits in let d3 = gives.does in
    let a4 = gives.admits in
    let go = both_on w0 w1 w5 (r1.events, r1.rests.leads) (both_on w1 w3 w5 (a2.events, a2.leads)
    (both_on w3 w4 w5 (d3.events, d3.leads) (a4.events, a4.leads))) in
    let long : length c.count_turns.new.clocks ≡ length x.clocks.items = c.count_turns.ensures.as_many ∙ ap (λ (l : List Clock). length l) c.deref_mut.ensures.value in
    let items = with_items_is x.clocks c.count_turns.new.clocks (c.count_turns.ensures.as_many ∙ c.deref_mut.ensures.len) in (
      lab_on w0 x.clocks.items _ w5 go (ap (λ (l : List Clock). length l) items ∙ long) c.self.invariant.0,
      c.give_up-third.ensures.marked,
      a4.line_of,
    )

pub returns-clause-settles : goal.returns-clause-settles
returns-clause-settles c =
    let x = c.self.inside in
    let w0 = x.world in let w1 = c.come_to_rest-first.new.world in let w3 = c.admit-second.new.world in
    let gives = c.give_up-third.ensures.gives in let w4 = gives.left in let w5 = c.give_up-third.new.world in
    let r1 = c.come_to_rest-first.ensures.rests in let a2 = c.admit-second.ensures.admits in let d3 = gives.does in
    let a4 = gives.admits in let given = c.jobs_of-given_up.result in
    let all = leads_both w0 w4 w5 (r1.events ++ a2.events ++ d3.events) a4.events
    (leads_both w0 w3 w4 (r1.events ++ a2.events) d3.events (leads_both w0 w1 w3 r1.events a2.events r1.rests.leads a2.leads) d3.leads) a4.leads in
    let items = with_items_is x.clocks c.count_turns.new.clocks (c.count_turns.ensures.as_many ∙ c.deref_mut.ensures.len) in
    let came : Came = record {
      holds = c.jobs_of.result;
      given_up = given;
      none_left = c.jobs_of-2.result;
      deeds = c.come_to_rest-first.result + c.admit-second.result + c.give_up-third.result;
    } in
    let new : LabView = record { world = w5; clocks = (with_items x.clocks c.count_turns.new.clocks).items; line = c.give_up-third.new.line } in
    subst (λ (old : LabView). Settles c.args.waiting old came new) c.self.view_is (record {
      rested = w1;
      first = r1.events;
      rests = r1.rests;
      asking = c.ask.new.line;
      asks = c.ask.ensures;
      joined = w3;
      left_out = c.admit-second.new.line;
      second = a2.events;
      joins = a2.admits;
      gives_up = subst (λ (l : List Clock). AreJobs w3.plan given (IsOutOfPatience l w3)) c.deref-3.ensures.value c.jobs_of-given_up.ensures;
      left = w4;
      third = d3.events;
      leaves = d3.does;
      fourth = a4.events;
      rejoins = a4.admits;
      free_hold = λ k job was.
          let at4 = subst (λ (p : LabPlan). IsJob p k) a4.leads.same_plan job in
          let at3 = subst (λ (p : LabPlan). IsJob p k) d3.leads.same_plan at4 in
          elim was [
            | inl first ↦
                let holding = a2.admits.free_hold k at3 first in
                a4.stay k at4 (holding_goes (phase w3.state k) (phase w4.state k) (others_go GivesUp given w3 d3.events w4 d3.does k
                (not_true (holds given k) (λ h. thirsty_holds_nothing (phase w3.state k)
                (thirsty_ones c.deref-3.result.now w3 given k c.jobs_of-given_up.ensures at3 (holds_has given k h)) holding))) holding)
            | inr later ↦ a4.admits.free_hold k job later
          ];
      outside = a4.admits.outside;
      leads = all;
      deeds = sum_of r1.events a2.events d3.events a4.events c.come_to_rest-first.result c.admit-second.result c.give_up-third.result gives.many gives.more gives.says
          r1.deeds a2.deeds d3.deeds a4.deeds;
      at_once = λ most nobody.
          let long : length x.line.places ≡ length w1.plan.jobs = c.self.invariant.2 ∙ ap (λ (p : LabPlan). length p.jobs) (sym r1.rests.leads.same_plan) in
          let waiters = all_ask c.args.waiting w1 x.line c.ask.new.line long most nobody c.ask.ensures in
          let in_now = in_at_once c.args.waiting a2.admits.times w1 c.ask.new.line a2.events w3 c.admit-second.new.line r1.rests.at_rest
          (c.ask.ensures.as_many ∙ long) waiters a2.admits.over a2.admits.one_by_one in
          let later = never c.args.waiting a4.admits.times w4 c.admit-second.new.line a4.events w5 c.give_up-third.new.line in_now.3 a4.admits.one_by_one in
          let given_up = subst (λ (l : List Clock). AreJobs w3.plan given (IsOutOfPatience l w3)) c.deref-3.ensures.value c.jobs_of-given_up.ensures in
          let leads = leads_both w0 w3 w4 (r1.events ++ a2.events) d3.events (leads_both w0 w1 w3 r1.events a2.events r1.rests.leads a2.leads) d3.leads in (
            subst (λ (z : WorldView). SettlesAtOnce c.args.waiting (record { world = w0; clocks = x.clocks.items; line = x.line }) came z) (sym later.1) (record {
              rested = w1;
              first = r1.events;
              rests = r1.rests;
              begun = in_now.0;
              begins = in_now.1;
              joined = w3;
              second = a2.events;
              joins = in_now.2;
              gives_up = given_up;
              third = d3.events;
              leaves = d3.does;
              leads = leads;
              deeds = sum_of r1.events a2.events d3.events a4.events c.come_to_rest-first.result c.admit-second.result c.give_up-third.result gives.many gives.more gives.says
                  r1.deeds a2.deeds d3.deeds a4.deeds ∙ ap (count_by is_deed) ((λ i. r1.events ++ a2.events ++ d3.events ++ later.0 i) ∙ append-nil (r1.events ++ a2.events ++ d3.events));
            }),
            subst (λ (l : LineView). NobodyIsOutside l) (sym later.2) in_now.3,
          );
      holds = c.jobs_of.ensures;
      none_left = c.jobs_of-2.ensures;
      at_rest = a4.at_rest d3.does.rests.at_rest;
      each_told =
          let back = seats_in c.args.waiting a2.admits.times w1 c.ask.new.line a2.events w3 c.admit-second.new.line a2.admits.one_by_one in
          each_told c.args.waiting w1 x.line c.ask.new.line a2.events w3 c.admit-second.new.line d3.events w4 a4.events w5 c.give_up-third.new.line
          (with_items x.clocks c.count_turns.new.clocks).items came r1.rests.at_rest c.ask.ensures (seats_before w1 w3 back d3.seats) a2.admits d3.does a4.admits
          (a4.at_rest d3.does.rests.at_rest) (retired_has_none w5 c.plan.ensures.reached) c.jobs_of.ensures c.jobs_of-2.ensures;
      counted = are_counted w0 w5 c.args.waiting c.jobs_of-thirsty.result x.clocks.items _ all.same_plan c.jobs_of-thirsty.ensures
          (subst (λ (z : List Clock × List Clock). AreTurnsCounted w5 c.args.waiting c.jobs_of-thirsty.result z.0 z.1) (λ i. (c.deref_mut.ensures.value i, sym items i))
          c.count_turns.ensures) x.line c.give_up-third.new.line;
    })
