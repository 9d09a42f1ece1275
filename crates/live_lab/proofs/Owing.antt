-- Who owes a meal retires later.
use Rattle.std.proofs.Common.{◌≡◌, ◌≢◌, ℕ, ◌<◌, ◌≤◌, Bool, true, false, List, [], ◌∷◌, length, refl, sym, ap, ◌∙◌, subst, inl, inr}
use Rattle.std.proofs.lemmas.Bool.{cases_Bool, false≢true}
use Rattle.lab_plan.specs.LabPlan.{LabPlan, sessions}
use Rattle.legal_steps.specs.declared.event.Event.{Event}
use Rattle.legal_steps.specs.declared.event.Event.TheVariants.{Retire as Retires}
use Rattle.legal_steps.specs.declared.phase.JobState.{JobState}
use Rattle.legal_steps.specs.declared.phase.Dining.{Dining}
use Rattle.legal_steps.specs.declared.phase.Dining.TheVariants.{Thinking, Hungry, Eating}
use Rattle.legal_steps.specs.declared.phase.Drinking.{Drinking}
use Rattle.legal_steps.specs.declared.phase.Drinking.TheVariants.{Tranquil, Thirsty, Drinking as Drinks, Reaching, Retired}
use Rattle.legal_steps.specs.State.{State, IsInSession, phase, dining, drinking, session}
use Rattle.legal_steps.specs.Legal.{IsJob}
use Rattle.interleaving.specs.World.{WorldView, LeadsTo, IsReachedWith}
use Rattle.edge_word.specs.Moves.{on}
use Rattle.reasons.specs.Deeds.{AreBetween}
use Rattle.session_layer.specs.declared.turning.Turned.{Turned}
use Rattle.live_lab.specs.declared.stage.Stage.{Stage}
use Rattle.live_lab.specs.declared.stage.Stage.TheVariants.{There, OnTheWay, Barred}
use Rattle.live_lab.specs.Labs.{LabView}
use Rattle.live_lab.specs.Stages.{IsStage, RestsAndRetires}
use Rattle.live_lab.specs.Retiring.{OwesOrRetires, WhoOwesAMealRetiresLater}
use Rattle.live_lab.proofs.Frames.{Goes, goes_all, seats_below}
use Rattle.live_lab.proofs.Phases.{has_seat, phase_set, phase_after}

tranquil_of : (d : Drinking) → (d ≡ Retired → ⊥) → (IsInSession d → ⊥) → d ≡ Tranquil
tranquil_of Tranquil r s = refl
tranquil_of Thirsty r s = absurd (s (inl refl))
tranquil_of Drinks r s = absurd (s (inr (inl refl)))
tranquil_of Reaching r s = absurd (s (inr (inr refl)))
tranquil_of Retired r s = absurd (r refl)

hungry_of : (d : Dining) → (d ≡ Thinking → ⊥) → (d ≡ Eating → ⊥) → d ≡ Hungry
hungry_of Thinking t e = absurd (t refl)
hungry_of Hungry t e = refl
hungry_of Eating t e = absurd (e refl)

still_tranquil : (p q : JobState) → Goes p q → p.drinking ≡ Tranquil → q.drinking ≡ Tranquil
still_tranquil p q (s, inl d) t = d ∙ t
still_tranquil p q (s, inr (u, v)) t = absurd (let e : Tranquil ≡ Thirsty = sym t ∙ u in let no : ⊥ = cc in no)

not_thirsty : (d : Drinking) → d ≡ Tranquil → d ≡ Thirsty → ⊥
not_thirsty d a b = let e : Tranquil ≡ Thirsty = sym a ∙ b in let no : ⊥ = cc in no

is_there : (w : WorldView) (j : ℕ) (stage : Stage) → IsStage w j stage → drinking w.state j ≡ Retired → stage ≡ There
is_there w j There s r = refl
is_there w j OnTheWay s r = absurd (s.0 r)
is_there w j Barred s r = absurd (s.0 r)

there_isnt_on_the_way : (s : Stage) → s ≡ There → s ≡ OnTheWay → ⊥
there_isnt_on_the_way s a b = let e : There ≡ OnTheWay = sym a ∙ b in let no : ⊥ = cc in no

-- it is retired
retired : (job : ℕ) (old : LabView) (stage : Stage) (new : LabView) → stage ≡ There → OwesOrRetires job old stage new
retired job old stage new there = record {
  owes = λ e. absurd (there_isnt_on_the_way stage there e);
  drinking_stays = λ e. absurd (there_isnt_on_the_way stage there e);
  session_stays = λ e. absurd (there_isnt_on_the_way stage there e);
  retires = λ n. there;
}

goes_to : (old : WorldView) (events : List Event) (new : WorldView) (j : ℕ) → LeadsTo old events new → AreBetween events → Goes (phase old.state j) (phase new.state j)
goes_to old events new j l b =
    subst (λ (s : State). Goes (phase old.state j) (phase s j)) (sym l.run.leads) (goes_all old.plan old.state events j l.run.legal b)

did_retire : (job : ℕ) (old : LabView) (r : Turned) (stage : Stage) (new : LabView) (x : RestsAndRetires job old r new)
    → IsReachedWith old.world.plan old.world.state old.world.counts → IsJob old.world.plan job → IsStage new.world job stage → x.did ≡ true
    → OwesOrRetires job old stage new
did_retire job old r stage new x reached is_job s did =
    let mid = x.mid in
    let leads : LeadsTo mid (Retires job ∷ []) new.world = subst (λ (b : Bool). LeadsTo mid (on b (Retires job) []) new.world) did x.leads in
    let same = ap (λ (t : State). length t.seats) x.rests.leads.run.leads ∙ seats_below old.world.plan old.world.state x.events in
    let there : job < length mid.state.seats = subst (λ n. job < n) (sym same) (has_seat old.world job reached is_job) in
    let now : phase new.world.state job ≡ record (phase mid.state job) { drinking = Retired } =
    phase_after mid new.world (Retires job) job leads ∙ phase_set mid.state job (record (phase mid.state job) { drinking = Retired }) there in
    retired job old stage new (is_there new.world job stage s (ap (λ (p : JobState). p.drinking) now))

didnt_retire : (job : ℕ) (old : LabView) (r : Turned) (stage : Stage) (new : LabView) (x : RestsAndRetires job old r new) → IsJob old.world.plan job
    → IsStage old.world job OnTheWay → x.did ≡ false → OwesOrRetires job old stage new
didnt_retire job old r stage new x is_job w did =
    let mid = x.mid in let o = old.world in
    let leads : LeadsTo mid [] new.world = subst (λ (b : Bool). LeadsTo mid (on b (Retires job) []) new.world) did x.leads in
    let goes = goes_to o x.events mid job x.rests.leads x.rests.between in
    let plan : mid.plan ≡ o.plan = x.rests.leads.same_plan in
    let was = tranquil_of (drinking o.state job) w.0 w.1.0 in
    let tranquil = still_tranquil (phase o.state job) (phase mid.state job) goes was in
    let job_there : IsJob mid.plan job = subst (λ (p : LabPlan). IsJob p job) (sym plan) is_job in
    let none_left : length (sessions mid.plan job) ≤ session mid.state job =
    subst (λ (p : LabPlan). length (sessions p job) ≤ session mid.state job) (sym plan) (subst (λ n. length (sessions o.plan job) ≤ n) (sym goes.0) w.1.1) in
    let not_thinking : dining mid.state job ≡ Thinking → ⊥ =
    λ e. false≢true (sym did ∙ x.legal.1 (job_there, e, tranquil, none_left)) in
    let not_eating : dining mid.state job ≡ Eating → ⊥ =
    λ e. not_thirsty (drinking mid.state job) tranquil (x.rests.at_rest.nobody_dawdles job job_there e) in
    let hungry = hungry_of (dining mid.state job) not_thinking not_eating in
    let same : new.world.state ≡ mid.state = leads.run.leads in
    let now : dining new.world.state job ≡ Hungry = ap (λ (t : State). dining t job) same ∙ hungry in
    record {
      owes = λ e. now;
      drinking_stays = λ e. ap (λ (t : State). drinking t job) same ∙ (tranquil ∙ sym was);
      session_stays = λ e. ap (λ (t : State). session t job) same ∙ goes.0;
      retires = λ n. absurd (n now);
    }

nothing_done : (job most : ℕ) (old : LabView) (stage : Stage) (new : LabView) → most ≢ 0 → IsStage old.world job OnTheWay
    → IsStage new.world job stage → (stage ≡ OnTheWay → most ≡ 0) → new ≡ old → ⊥
nothing_done job most old There new some w s none same = w.0 (subst (λ (l : LabView). drinking l.world.state job ≡ Retired) same s)
nothing_done job most old OnTheWay new some w s none same = some (none refl)
nothing_done job most old Barred new some w s none same =
    let b = subst (λ (l : LabView). IsStage l.world job Barred) same s in b.1 w.1

pub who_owes : WhoOwesAMealRetiresLater
who_owes most job old a new reached is_job some w (s, inl (on_way, more, x)) = elim (cases_Bool x.did) [
  | inl did ↦ did_retire job old a.1 a.0 new x reached is_job s did
  | inr not ↦ didnt_retire job old a.1 a.0 new x is_job w not
]
who_owes most job old a new reached is_job some w (s, inr (none, idle, same)) = absurd (nothing_done job most old a.0 new some w s none same)
