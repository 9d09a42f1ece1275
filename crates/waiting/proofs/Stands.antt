-- Desks after rounds.
use Rattle.std.proofs.Common.{◌≡◌, ◌≢◌, ◌↔◌, ◌⊎◌, ℕ, zero, suc, ◌+◌, ◌≤◌, ◌<◌, Bool, true, false, List, [], ◌∷◌, ◌++◌, length, take, refl, sym, ap, ◌∙◌, subst, inl, inr, arith, append_assoc, append-nil}
use Rattle.std.proofs.lemmas.Bool.{false≢true}
use Rattle.std.proofs.lemmas.List.{take-append-le}
use Rattle.lab_plan.specs.LabPlan.{LabPlan}
use Rattle.legal_steps.specs.declared.event.Event.{Event}
use Rattle.turns.specs.History.{IsHistory, events_by}
use Rattle.turns.specs.AtTheEnd.{AllRetired}
use Rattle.turns.specs.Lists.{StartsWith}
use Rattle.turns.proofs.Runs.{each-append}
use Rattle.edge_rule.specs.DeskView.{DeskView, BenchView, fresh_desk, fresh_desks}
use Rattle.edge_rule.specs.Company.{jobs_of, Distinct}
use Rattle.edge_rule.specs.Ending.{Any, HasAll}
use Rattle.rounds.specs.declared.ended.Ended.{Ended}
use Rattle.rounds.specs.declared.ended.Ended.TheVariants as reasons
use Rattle.rounds.specs.Company.{IsWhole, first_front}
use Rattle.rounds.specs.Rounds.{Player, players_of, Round, Rounds, IsOver, Why, Drove}
use Rattle.rounds.proofs.Together.{no_more}
use Rattle.rounds.proofs.Driven.{all_of}
use Rattle.rounds.specs.QuietEnd.{jobs_in}
use Rattle.rounds.specs.OneRun.{RanRounds, why_ended}
use Rattle.rounds.specs.FromOpening.{fresh_players, opened}
use Rattle.rounds.proofs.InRounds.{OneTurn, round_one, rounds_jobs}
use Rattle.rounds.proofs.SameRun.{rounds_start, legal_from}
use Rattle.rounds.proofs.Opened.{players_fresh, all_players, players_once}
use Rattle.rounds.proofs.Going.{round_more}
use Rattle.rounds.proofs.QuietEnd.{no_quiet_end}
use Rattle.rounds.proofs.Fresh.{opened_own, opened_all, same_desks}
use Rattle.waiting.specs.Rounds.{joined, IsAfter}
use Rattle.waiting.specs.Watching.{HadTurn, OneMore, Stands, Watched, is_all_retired}
use Rattle.waiting.proofs.Desks.{know_all}

-- so many rounds were done, the desks stand after them, and this is told of them
pub record Follows (b : BenchView) (n : ℕ) (desks : List DeskView) (tells : List (List Event) → Type 0) : Type 0 where
  pub rounds : List (List Event)
  pub number : length rounds ≡ n
  pub stands : Stands b rounds desks
  pub told : tells rounds

-- ---- one round more

pub joined_more : (rounds : List (List Event)) (e : List Event) → joined (rounds ++ e ∷ []) ≡ joined rounds ++ e
joined_more [] e = append-nil e
joined_more (r ∷ rounds) e = ap (λ l. r ++ l) (joined_more rounds e) ∙ sym (append_assoc r (joined rounds) e)

pub length_more : {A : Type 0} (l : List A) (x : A) → length (l ++ x ∷ []) ≡ length l + 1
length_more [] x = refl
length_more (y ∷ l) x = let e : suc (length l + 1) ≡ suc (length l) + 1 = omega arith in ap suc (length_more l x) ∙ e

-- ---- desks that are driven on

same_events : (m : ℕ) (f g : List Event) (l : List DeskView) → Any (λ (j : ℕ). j ≡ m) (jobs_of l) → IsWhole f l → IsWhole g l → events_by m g ≡ events_by m f
same_events m f g [] any a b = absurd any
same_events m f g (d ∷ l) (inl h) a b = subst (λ (z : ℕ). events_by z g ≡ events_by z f) h (b.0 ∙ sym a.0)
same_events m f g (d ∷ l) (inr h) a b = same_events m f g l h a.1 b.1

pub has_all : (b : BenchView) (desks : List DeskView) → jobs_of desks ≡ jobs_of (opened b) → HasAll b.plan desks
has_all b desks jobs = same_desks b.plan (opened b) desks jobs (opened_all b)

module _ (b : BenchView) (rounds : List (List Event)) (desks : List DeskView) (s : Stands b rounds desks) where
  abbrev h : List Event
  h = joined rounds

  abbrev n : ℕ
  n = length rounds

  abbrev all : List Player
  all = fresh_players (length b.plan.jobs)

  module _ (limit : ℕ) (ended : Ended) (m : ℕ) (new : List DeskView) (d : Drove b limit desks ended m new) where
    legal_start : IsHistory b.plan d.start
    legal_start = legal_from b.plan (first_front new) d.start
        (rounds_start b.plan (players_of desks) (players_of new) m d.idle d.start (first_front new) d.rounds) d.company.legal

    pub start_is : d.start ≡ h
    start_is = no_more b.plan h d.start (subst (StartsWith d.start) s.front d.begins) legal_start
        (λ j inside. same_events j h d.start desks (all_of b.plan desks (has_all b desks s.jobs) j inside) s.whole d.whole)

  -- no round was done
  module _ (limit : ℕ) (ended : Ended) (new : List DeskView) (d : Drove b limit desks ended 0 new) where
    abbrev same_front : first_front new ≡ h
    same_front = d.rounds.0 ∙ start_is limit ended 0 new d

    pub why_none : Why b.plan h ended false 0 limit
    why_none = subst (λ (z : List Event × Bool). Why b.plan z.0 ended z.1 0 limit) (λ i. (same_front i, d.rounds.1 i)) d.why

  -- one round was done
  module _ (ended : Ended) (new : List DeskView) (d : Drove b 1 desks ended 1 new) where
    abbrev g : List Event
    g = first_front new

    pub grown : StartsWith g h
    grown = subst (StartsWith g) (start_is 1 ended 1 new d)
        (rounds_start b.plan (players_of desks) (players_of new) 1 d.idle d.start g d.rounds)

    going : ¬ AllRetired b.plan h
    going retired = d.rounds.4 (inl (subst (AllRetired b.plan) (sym (d.rounds.3.0 ∙ start_is 1 ended 1 new d)) retired))

    last : Round b.plan (players_of desks) d.idle h g (players_of new)
    last = subst (λ (z : List Player × List Event). Round b.plan z.0 d.idle z.1 g (players_of new))
        (λ i. (d.rounds.3.2 i, (d.rounds.3.0 ∙ start_is 1 ended 1 new d) i)) d.rounds.5

    turns : (j : ℕ) → j < length b.plan.jobs → OneTurn b.plan j d.idle h g
    turns j inside =
        let jobs : jobs_in (players_of desks) ≡ jobs_in all = rounds_jobs b.plan all (players_of desks) n s.idle [] h s.now in
        round_one b.plan j (players_of desks) (players_of new) d.idle h g (subst Distinct (sym jobs) (players_once b.plan))
        (subst (Any (λ (i : ℕ). i ≡ j)) (sym jobs) (all_players b.plan j inside)) last

    more : Rounds b.plan all (n + 1) d.idle [] g (players_of new)
    more = round_more b.plan (players_of desks) n s.idle h s.now (players_of new) d.idle g s.legal going last

    abbrev pub added : List Event
    added = grown.0

    abbrev now : List (List Event)
    now = rounds ++ added ∷ []

    all_now : joined now ≡ g
    all_now = joined_more rounds added ∙ sym grown.1

    each_now : (k : ℕ) → k ≤ length now → IsAfter b.plan k (joined (take k now))
    each_now k small = elim cases [
      | inl old ↦ subst (IsAfter b.plan k) (ap joined (sym (take-append-le k rounds (added ∷ []) old))) (s.each k old)
      | inr end ↦ (let whole : take k now ≡ now = ap (λ m. take m now) (end ∙ sym (length_more rounds added)) ∙ all_taken now in
          subst (IsAfter b.plan k) (sym (ap joined whole ∙ all_now))
          (subst (λ m. IsAfter b.plan m g) (sym end) (record { idle = d.idle; players = players_of new; rounds = more })))
    ] where
      all_taken : {A : Type 0} (l : List A) → take (length l) l ≡ l
      all_taken [] = refl
      all_taken (x ∷ l) = ap (λ z. x ∷ z) (all_taken l)

      split : (k m : ℕ) → k ≤ m + 1 → (k ≤ m) ⊎ (k ≡ m + 1)
      split zero m small = inl (omega arith)
      split (suc k) zero small = inr (omega (arith, small))
      split (suc k) (suc m) small = elim (split k m (omega (arith, small))) [ inl a ↦ inl (omega (arith, a)) | inr b ↦ inr (omega (arith, b)) ]

      cases : (k ≤ length rounds) ⊎ (k ≡ length rounds + 1)
      cases = split k (length rounds) (subst (λ m. k ≤ m) (length_more rounds added) small)

    pub stands_then : Stands b now new
    stands_then = record {
      jobs = d.jobs ∙ s.jobs;
      own = d.company.own;
      front = sym all_now;
      legal = subst (IsHistory b.plan) (sym all_now) d.company.legal;
      whole = subst (λ l. IsWhole l new) (sym all_now) d.company.whole;
      each = each_now;
      idle = d.idle;
      now = subst (λ (z : ℕ × List Event). Rounds b.plan all z.0 d.idle [] z.1 (players_of new)) (λ i. (sym (length_more rounds added) i, sym all_now i)) more;
    }

    had_turn : (j : ℕ) → j < length b.plan.jobs → HadTurn b.plan j h (joined now)
    had_turn j inside = let q = turns j inside in
        subst (HadTurn b.plan j h) (sym all_now)
        (record { waited = q.waited; visits = q.visits; acts = q.acts; events = q.events; own = q.own; turn = q.turn })

    pub one_more : (round : ℕ) → round ≡ n + 1 → OneMore b.plan rounds added round new
    one_more round is = record {
      number = is;
      front = sym all_now;
      legal = subst (IsHistory b.plan) (sym all_now) d.company.legal;
      turns = had_turn;
      know = know_all b g new (d.jobs ∙ s.jobs) d.company.own d.company.whole;
    }

  -- ---- at the end

  not_over : ¬ AllRetired b.plan h → ¬ IsOver b.plan s.idle h
  not_over other (inl retired) = other retired
  not_over other (inr quiet) = other (no_quiet_end b.plan all (players_of desks) n h (all_players b.plan) (players_once b.plan) s.legal
      (subst (λ i. Rounds b.plan all n i [] h (players_of desks)) quiet.0 s.now) quiet.1)

  finish : (limit : ℕ) (retired : Bool) → n ≤ limit → (retired ≡ true) ↔ AllRetired b.plan h → (retired ≡ false → n ≡ limit)
      → RanRounds b.plan limit all [] (why_ended retired) n h
  finish limit true most test end =
      record { idle = s.idle; players_then = players_of desks; legal = s.legal; rounds = s.now; most = most; why = test.0 refl }
  finish limit false most test end = record {
    idle = s.idle;
    players_then = players_of desks;
    legal = s.legal;
    rounds = s.now;
    most = most;
    why = (not_over (λ retired. false≢true (test.1 retired)), end refl);
  }

  pub watched : (limit : ℕ) (retired : Bool) → n ≤ limit → (retired ≡ true) ↔ AllRetired b.plan h → (retired ≡ false → n ≡ limit)
      → (tells : List (List Event) → Type 0) → tells rounds → (m : ℕ) → m ≡ n → Watched b.plan limit m retired tells
  watched limit retired most test end tells told m m_is = record {
    rounds = rounds;
    are_rounds = record { ran = finish limit retired most test end; each = s.each };
    number = m_is;
    told = told;
  }

-- ---- why no round was done

module _ (plan : LabPlan) (h : List Event) where
  pub none_going : (ended : Ended) → Why plan h ended false 0 1 → AllRetired plan h
  none_going reasons.AllRetired why = why
  none_going reasons.Quiet why = let no = why.1 in absurd (cc)
  none_going reasons.Limit why = let no = why.1 in absurd (omega (arith, no))
  none_going reasons.NoMemory why = absurd why

  pub none_asked : (ended : Ended) → Why plan h ended false 0 0 → (is_all_retired ended ≡ true) ↔ AllRetired plan h
  none_asked reasons.AllRetired why = (λ is. why, λ retired. refl)
  none_asked reasons.Quiet why = let no = why.1 in absurd (cc)
  none_asked reasons.Limit why = (λ is. absurd (cc), λ retired. absurd (why.0 (inl retired)))
  none_asked reasons.NoMemory why = absurd why

-- ---- desks that were just dealt

module _ (b : BenchView) where
  front_none : (m : ℕ) → first_front (fresh_desks b.table b.plan m) ≡ []
  front_none zero = refl
  front_none (suc m) = last (fresh_desks b.table b.plan m) (front_none m) where
    last : (l : List DeskView) → first_front l ≡ [] → first_front (l ++ fresh_desk b.table b.plan m ∷ []) ≡ []
    last [] none = refl
    last (d ∷ l) none = none

  whole_none : (m : ℕ) → IsWhole [] (fresh_desks b.table b.plan m)
  whole_none zero = tt
  whole_none (suc m) = each-append (λ (d : DeskView). events_by d.job [] ≡ d.deeds) (fresh_desks b.table b.plan m) (fresh_desk b.table b.plan m ∷ [])
      (whole_none m) (refl, tt)

  at_start : Stands b [] (opened b)
  at_start = record {
    jobs = refl;
    own = opened_own b;
    front = front_none (length b.plan.jobs);
    legal = tt;
    whole = whole_none (length b.plan.jobs);
    each = λ k small. let zero_is : 0 ≡ k = omega (arith, small) in
        subst (λ m. IsAfter b.plan m (joined (take m []))) zero_is (record { idle = false; players = fresh_players (length b.plan.jobs); rounds = (refl, refl, refl) });
    idle = false;
    now = (refl, refl, players_fresh b.table b.plan (length b.plan.jobs));
  }

  pub begins : (desks : List DeskView) → desks ≡ opened b → Stands b [] desks
  begins desks is = subst (Stands b []) (sym is) at_start
