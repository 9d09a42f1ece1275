-- What all rounds give, where all desks met before and after.
use Rattle.std.proofs.Common.{◌≡◌, ℕ, suc, ◌<◌, false, inl, inr, List, [], ◌∷◌, length, get_or, set, refl, sym, ap, ◌∙◌, subst, arith}
use Rattle.lab_plan.specs.LabPlan.{LabPlan}
use Rattle.legal_steps.specs.declared.event.Event.{Event}
use Rattle.turns.specs.History.{events_by, IsHistory}
use Rattle.turns.specs.Lists.{StartsWith, Each}
use Rattle.edge_rule.specs.DeskView.{DeskView, BenchView, Owns, IsAtRest, waits}
use Rattle.edge_rule.specs.Company.{Met, Hears, jobs_of}
use Rattle.edge_rule.specs.Telling.{Heard}
use Rattle.edge_rule.specs.Ending.{Any, HasAll}
use Rattle.rounds.specs.declared.ended.Ended.{Ended}
use Rattle.rounds.specs.declared.ended.Ended.TheVariants as reasons
use Rattle.rounds.specs.Company.{AllOf, IsWhole, Spread, Company, first_front}
use Rattle.rounds.specs.Rounds.{Player, player_of, players_of, Rounds, Why, Played, Drove}
use Rattle.rounds.proofs.Lists.{starts_then, starts_self}
use Rattle.rounds.proofs.Together.{whole_before, no_more, heard_rests}

-- each job of the plan has a desk
pub all_of : (plan : LabPlan) (desks : List DeskView) → HasAll plan desks → AllOf plan (jobs_of desks)
all_of plan desks all m inside = go desks (all.every m inside) where
  go : (l : List DeskView) → Any (λ (d : DeskView). d.job ≡ m) l → Any (λ (j : ℕ). j ≡ m) (jobs_of l)
  go [] any = absurd any
  go (d ∷ l) (inl h) = inl h
  go (d ∷ l) (inr h) = inr (go l h)

-- ---- desks that meet

-- what all know after they met
pub record Knows (b : BenchView) (old new : List DeskView) : Type 0 where
  pub jobs : jobs_of new ≡ jobs_of old
  pub players : players_of new ≡ players_of old
  pub company : Company b (first_front new) new
  pub starts : Each (λ (d : DeskView). StartsWith (first_front new) d.front) old
  pub whole : IsWhole (first_front new) old
  pub goes_on : StartsWith (first_front new) (first_front old)

hears_rests : (d : DeskView) (others : List DeskView) (e : DeskView) → IsAtRest d → Hears d others e → IsAtRest e
hears_rests d others e r h = record {
  inside = subst (λ (z : LabPlan × ℕ). z.1 < length z.0.jobs) (λ i. (sym h.plan i, sym h.job i)) r.inside;
  legal = h.legal;
  whole = h.whole;
}

player_path : (d e : DeskView) → e.job ≡ d.job → e.clock ≡ d.clock → player_of e ≡ player_of d
player_path d e job clock = λ i. record { job = job i; waited = waits (clock i) }

pub met_knows : (b : BenchView) (old new : List DeskView) → Each (Owns b) old → Each IsAtRest old → Met old new → Knows b old new
met_knows b [] new owns rest is =
    subst (Knows b []) (sym is) (record {
      jobs = refl;
      players = refl;
      company = record { own = tt; rest = tt; legal = tt; starts = tt; whole = tt };
      starts = tt;
      whole = tt;
      goes_on = ([], refl);
    })
met_knows b (d ∷ ds) new owns rest (e, is, t) = subst (Knows b (d ∷ ds)) (sym is) (record {
  jobs = ap (λ j. j ∷ jobs_of ds) t.job;
  players = ap (λ x. x ∷ players_of ds) (player_path d e t.job t.clock);
  company = record {
    own = ((t.table ∙ owns.0.0, t.plan ∙ owns.0.1), owns.1);
    rest = (hears_rests d ds e rest.0 t, rest.1);
    legal = subst (λ (p : LabPlan). IsHistory p e.front) (t.plan ∙ owns.0.1) t.legal;
    starts = (starts_self e.front, t.starts);
    whole = (t.whole, t.wholes);
  };
  starts = ((t.more, t.front), t.starts);
  whole = ((λ i. events_by (sym t.job i) e.front) ∙ (t.whole ∙ t.deeds), t.wholes);
  goes_on = (t.more, t.front);
})

same_events : (m : ℕ) (f g : List Event) (l : List DeskView) → Any (λ (j : ℕ). j ≡ m) (jobs_of l) → IsWhole f l → IsWhole g l → events_by m g ≡ events_by m f
same_events m f g [] any a b = absurd any
same_events m f g (d ∷ l) (inl h) a b = subst (λ (z : ℕ). events_by z g ≡ events_by z f) h (b.0 ∙ sym a.0)
same_events m f g (d ∷ l) (inr h) a b = same_events m f g l h a.1 b.1

-- ---- all rounds

-- only what the first desk has seen is another
record Alike (d e : DeskView) : Type 0 where
  pub table : e.table ≡ d.table
  pub plan : e.plan ≡ d.plan
  pub job : e.job ≡ d.job
  pub deeds : e.deeds ≡ d.deeds
  pub clock : e.clock ≡ d.clock

pub drove : (b : BenchView) (limit : ℕ) (old met new final : List DeskView) (h g : List Event) (x e : DeskView) (ended : Ended) (n : ℕ)
    → Knows b old met → h ≡ first_front met → AllOf b.plan (jobs_of old) → Spread b g new → jobs_of new ≡ jobs_of old
    → (IsWhole g new → Played b limit (players_of old) h ended n g new) → 0 < length new
    → x ≡ get_or new 0 x → Heard x g e → Met (set new 0 e) final → Drove b limit old ended n final
drove b limit old met [] final h g x e ended n k h_is all spread jobs went some is heard joint = absurd (omega arith)
drove b limit old met (d ∷ l) final h g x e ended n k h_is all spread jobs went some is heard joint =
    let a : Alike d e =
    subst (λ (z : DeskView). Alike z e) is (record { table = heard.table; plan = heard.plan; job = heard.job; deeds = heard.deeds; clock = heard.clock }) in
    let new : List DeskView = d ∷ l in let G : List Event = first_front final in
    let rests : IsAtRest e = heard_rests x g e (subst IsAtRest (sym is) spread.rest.0) heard in
    let k2 : Knows b (e ∷ l) final =
    met_knows b (e ∷ l) final ((a.table ∙ spread.own.0.0, a.plan ∙ spread.own.0.1), spread.own.1) (rests, spread.rest.1) joint in
    let goes : StartsWith G g = starts_then G e.front g k2.goes_on heard.starts in
    let later : IsWhole G new = ((λ i. events_by (sym a.job i) G) ∙ (k2.whole.0 ∙ a.deeds), k2.whole.1) in
    let now : IsWhole g new = whole_before new g G goes spread.starts spread.rest later in
    let same : g ≡ G =
    sym (no_more b.plan g G goes k2.company.legal (λ m small. same_events m g G new (subst (AllOf b.plan) (sym jobs) all m small) now later)) in
    let t = went now in
    let players : players_of new ≡ players_of final = sym (k2.players ∙ ap (λ y. y ∷ players_of l) (player_path d e a.job a.clock)) in record {
      start = h;
      begins = subst (λ z. StartsWith z (first_front old)) (sym h_is) k.goes_on;
      whole = subst (λ z. IsWhole z old) (sym h_is) k.whole;
      idle = t.idle;
      rounds = subst (λ (z : List Event × List Player). Rounds b.plan (players_of old) n t.idle h z.0 z.1) (λ i. (same i, players i)) t.rounds;
      most = t.most;
      why = subst (λ z. Why b.plan z ended t.idle n limit) same t.why;
      jobs = k2.jobs ∙ (ap (λ j. j ∷ jobs_of l) a.job ∙ jobs);
      company = k2.company;
    }

-- ---- the first desk

-- a desk that is the same is put back
pub set_first : (l : List DeskView) (x y : DeskView) → x ≡ get_or l 0 x → y ≡ x → set l 0 y ≡ l
set_first [] x y is put = refl
set_first (d ∷ l) x y is put = ap (λ z. z ∷ l) (put ∙ is)

pub front_first : (l : List DeskView) (x : DeskView) → 0 < length l → x ≡ get_or l 0 x → x.front ≡ first_front l
front_first [] x some is = absurd (omega arith)
front_first (d ∷ l) x some is = ap (λ (z : DeskView). z.front) is

pub jobs_length : (l : List DeskView) → length (jobs_of l) ≡ length l
jobs_length [] = refl
jobs_length (d ∷ l) = ap suc (jobs_length l)

-- what playing starts from
pub record Start (b : BenchView) (old met told : List DeskView) (h : List Event) : Type 0 where
  pub knows : Knows b old met
  pub same : told ≡ met
  pub front : h ≡ first_front met
  pub spread : Spread b h met

pub start : (b : BenchView) (old met : List DeskView) (x y : DeskView) (h : List Event) → Each (Owns b) old → Each IsAtRest old
    → Met old met → 0 < length met → x ≡ get_or met 0 x → y ≡ x → h ≡ x.front → Start b old met (set met 0 y) h
start b old met x y h own rest joint some is same front = let k = met_knows b old met own rest joint in
    let e : h ≡ first_front met = front ∙ front_first met x some is in record {
      knows = k;
      same = set_first met x y is same;
      front = e;
      spread = subst (λ z. Spread b z met) (sym e) (record { own = k.company.own; rest = k.company.rest; legal = k.company.legal; starts = k.company.starts });
    }

-- where there is no desk
pub no_desk : (l : List DeskView) → length l ≡ 0 → l ≡ []
no_desk [] e = refl
no_desk (d ∷ l) e = absurd (omega arith)

pub none_drove : (b : BenchView) (limit : ℕ) (l : List DeskView) → length l ≡ 0 → AllOf b.plan (jobs_of l) → Drove b limit l reasons.AllRetired 0 l
none_drove b limit l none all =
    let is = no_desk l none in
    let nobody = subst (λ z. AllOf b.plan (jobs_of z)) is all in
    subst (λ z. Drove b limit z reasons.AllRetired 0 z) (sym is) (record {
      start = [];
      begins = ([], refl);
      whole = tt;
      idle = false;
      rounds = (refl, refl, refl);
      most = omega arith;
      why = λ j inside. absurd (nobody j inside);
      jobs = refl;
      company = record { own = tt; rest = tt; legal = tt; starts = tt; whole = tt };
    })

-- as many desks
pub same_length : (a b : List DeskView) → jobs_of a ≡ jobs_of b → length a ≡ length b
same_length a b e = sym (jobs_length a) ∙ (ap (λ (l : List ℕ). length l) e ∙ jobs_length b)

pub began : (b : BenchView) (old met : List DeskView) (x0 y : DeskView) (h : List Event) → Each (Owns b) old → Each IsAtRest old
    → Met old met → 0 < length old → x0 ≡ get_or met 0 x0 → y ≡ get_or met 0 x0 → h ≡ (get_or met 0 x0).front → Start b old met (set met 0 y) h
began b old met x0 y h own rest joint some is same front =
    let k = met_knows b old met own rest joint in
    let long : length met ≡ length old = same_length met old k.jobs in
    start b old met (get_or met 0 x0) y h own rest joint (omega arith) (ap (get_or met 0) is) same front
