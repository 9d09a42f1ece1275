-- Rounds are determined by where they began.
use Rattle.std.proofs.Common.{◌≡◌, ◌⊎◌, ℕ, zero, suc, ◌+◌, ◌<◌, Bool, ◌&&◌, List, [], ◌∷◌, ◌++◌, refl, sym, ap, ◌∙◌, subst, inl, inr, arith, append_assoc, append-nil}
use Rattle.std.proofs.lemmas.Bool.{cases_eq, cases_lt}
use Rattle.lab_plan.specs.LabPlan.{LabPlan}
use Rattle.legal_steps.specs.declared.event.Event.{Event}
use Rattle.legal_steps.specs.Run.{IsLegalFrom}
use Rattle.legal_steps.specs.Opening.{the_opening}
use Rattle.turns.specs.History.{IsHistory, state_after}
use Rattle.turns.specs.Lists.{StartsWith}
use Rattle.turns.proofs.Runs.{legal-begins, legal-goes_on}
use Rattle.turns.specs.Turn.{is_done, count, once}
use Rattle.session_layer.specs.declared.turning.Turned.{Turned}
use Rattle.session_layer.specs.Turn.{Says}
use Rattle.rounds.specs.declared.ended.Ended.{Ended}
use Rattle.session_layer.specs.declared.turning.Turned.TheVariants as answers
use Rattle.rounds.specs.declared.ended.Ended.TheVariants as reasons
use Rattle.rounds.specs.Rounds.{Player, known_in, waited_so_far, player_after, Plays, is_idle, Round, Rounds, IsOver, Why}
use Rattle.rounds.specs.OneRun.{RanRounds, OneRun}
use Rattle.rounds.proofs.SameTurn.{turn_same}

starts_then : (a b c : List Event) → StartsWith a b → StartsWith b c → StartsWith a c
starts_then a b c s t = (t.0 ++ s.0, s.1 ∙ (ap (λ l. l ++ s.0) t.1 ∙ append_assoc c t.0 s.0))

same_idle : (r s : Turned) (done : ℕ) → Says r done 0 → Says s done 0 → is_idle r ≡ is_idle s
same_idle (answers.Acted n) (answers.Acted m) done a b = refl
same_idle (answers.Acted n) answers.Moved done a b = absurd (omega (arith, b.1))
same_idle (answers.Acted n) answers.Idle done a b = absurd (omega (arith, a.0, a.1, b.0))
same_idle answers.Moved s done a b = absurd (omega (arith, a.1))
same_idle answers.Idle (answers.Acted m) done a b = absurd (omega (arith, b.0, b.1, a.0))
same_idle answers.Idle answers.Moved done a b = absurd (omega (arith, b.1))
same_idle answers.Idle answers.Idle done a b = refl

module _ (plan : LabPlan) where
  abbrev Same : Bool → Bool → List Event → List Event → List Player → List Player → Type 0
  Same idle idle' g g' ps ps' = (g ≡ g') × (idle ≡ idle') × (ps ≡ ps')

  -- one turn
  plays_same : (x x' y' : Player) (h g g' : List Event) (r r' : Turned) → IsHistory plan g → IsHistory plan g'
      → Plays plan x h r g x' → Plays plan x h r' g' y' → (g ≡ g') × (is_idle r ≡ is_idle r') × (x' ≡ y')
  plays_same x x' y' h g g' r r' legal legal' t t' =
      let now : IsLegalFrom plan (state_after plan h) t.events = legal-goes_on plan (the_opening plan) h t.events (subst (IsHistory plan) t.after legal) in
      let now' : IsLegalFrom plan (state_after plan h) t'.events = legal-goes_on plan (the_opening plan) h t'.events (subst (IsHistory plan) t'.after legal') in
      let same = turn_same plan x.job (waited_so_far plan x h) (known_in plan h x.job)
      (state_after plan h) t.visits t'.visits t.acts t'.acts t.events t'.events t.turn t'.turn t.none_lost t'.none_lost now now' in (
        t.after ∙ (ap (λ l. h ++ l) same.0 ∙ sym t'.after),
        same_idle r r' (count is_done t'.visits + once t'.acts) (subst (λ n. Says r n 0) same.1 t.says) t'.says,
        t.counted ∙ (ap (player_after plan x h) same.0 ∙ sym t'.counted),
      )

  round_starts : (players ps : List Player) (idle : Bool) (h g : List Event) → Round plan players idle h g ps → StartsWith g h
  round_starts [] ps idle h g is = ([], is.0 ∙ sym (append-nil h))
  round_starts (x ∷ players) ps idle h g (r, m, x', later, rest, t, more, idle_is, players_are) =
      starts_then g m h (round_starts players rest later m g more) (t.events, t.after)

  pub rounds_start : (players ps : List Player) (n : ℕ) (idle : Bool) (h g : List Event) → Rounds plan players n idle h g ps → StartsWith g h
  rounds_start players ps zero idle h g is = ([], is.0 ∙ sym (append-nil h))
  rounds_start players ps (suc n) idle h g (m, before, middle, rounds, going, last) =
      starts_then g m h (round_starts middle ps idle m g last) (rounds_start players middle n before h m rounds)

  pub legal_from : (g h : List Event) → StartsWith g h → IsHistory plan g → IsHistory plan h
  legal_from g h s legal = legal-begins plan (the_opening plan) h s.0 (subst (IsHistory plan) s.1 legal)

  round_same : (players ps ps' : List Player) (idle idle' : Bool) (h g g' : List Event) → IsHistory plan g
      → IsHistory plan g' → Round plan players idle h g ps → Round plan players idle' h g' ps' → Same idle idle' g g' ps ps'
  round_same [] ps ps' idle idle' h g g' legal legal' is is' = (is.0 ∙ sym is'.0, is.1 ∙ sym is'.1, is.2 ∙ sym is'.2)
  round_same (x ∷ players) ps ps' idle idle' h g g' legal legal' (r, m, x', later, rest, t, more, idle_is, players_are)
      (r', m', y', later', rest', t', more', idle_is', players_are') =
      let a = plays_same x x' y' h m m' r r' (legal_from g m (round_starts players rest later m g more) legal)
      (legal_from g' m' (round_starts players rest' later' m' g' more') legal') t t' in
      let b = round_same players rest rest' later later' m g g' legal legal' more (subst (λ z. Round plan players later' z g' rest') (sym a.0) more') in
      (b.0, idle_is ∙ ((λ i. a.1 i && b.1 i) ∙ sym idle_is'), players_are ∙ ((λ i. a.2 i ∷ b.2 i) ∙ sym players_are'))

  pub rounds_same : (players ps ps' : List Player) (n : ℕ) (idle idle' : Bool) (h g g' : List Event) → IsHistory plan g
      → IsHistory plan g' → Rounds plan players n idle h g ps → Rounds plan players n idle' h g' ps' → Same idle idle' g g' ps ps'
  rounds_same players ps ps' zero idle idle' h g g' legal legal' is is' = (is.0 ∙ sym is'.0, is.1 ∙ sym is'.1, is.2 ∙ sym is'.2)
  rounds_same players ps ps' (suc n) idle idle' h g g' legal legal' (m, before, middle, rounds, going, last) (m', before', middle', rounds', going', last') =
      let a = rounds_same players middle middle' n before before' h m m' (legal_from g m (round_starts middle ps idle m g last) legal)
      (legal_from g' m' (round_starts middle' ps' idle' m' g' last') legal') rounds rounds' in
      round_same middle ps ps' idle idle' m g g' legal legal' last
      (subst (λ (z : List Player × List Event). Round plan z.0 idle' z.1 g' ps') (λ i. (sym a.2 i, sym a.0 i)) last')

  -- ---- after fewer rounds it wasn't over

  pub record WasGoing (players : List Player) (k : ℕ) (h g : List Event) : Type 0 where
    pub then : List Event
    pub idle : Bool
    pub players_then : List Player
    pub rounds : Rounds plan players k idle h then players_then
    pub going : ¬ IsOver plan idle then
    pub starts : StartsWith g then

  fewer : (players ps : List Player) (n k : ℕ) (idle : Bool) (h g : List Event) → k < n → Rounds plan players n idle h g ps → WasGoing players k h g
  fewer players ps zero k idle h g less is = absurd (omega (arith, less))
  fewer players ps (suc n) k idle h g less (m, before, middle, rounds, going, last) = elim (cases_eq k n) [
    | inl same ↦ record {
      then = m;
      idle = before;
      players_then = middle;
      rounds = subst (λ z. Rounds plan players z before h m middle) (sym same) rounds;
      going = going;
      starts = round_starts middle ps idle m g last;
    }
    | inr other ↦ (let q : WasGoing players k h m = fewer players middle n k before h m (omega (arith, less, other)) rounds in record {
      then = q.then;
      idle = q.idle;
      players_then = q.players_then;
      rounds = q.rounds;
      going = q.going;
      starts = starts_then g m q.then (round_starts middle ps idle m g last) q.starts;
    })
  ]

  over : (ended : Ended) (idle : Bool) (n limit : ℕ) (g : List Event) → Why plan g ended idle n limit → IsOver plan idle g ⊎ (n ≡ limit)
  over reasons.AllRetired idle n limit g why = inl (inl why)
  over reasons.Quiet idle n limit g why = inl (inr (why.1, why.2))
  over reasons.Limit idle n limit g why = inr why.1
  over reasons.NoMemory idle n limit g why = absurd why

  -- it ends no later
  no_later : (limit : ℕ) (players : List Player) (h : List Event) (ended ended' : Ended) (n k : ℕ) (g g' : List Event)
      → RanRounds plan limit players h ended k g → RanRounds plan limit players h ended' n g' → k < n → ⊥
  no_later limit players h ended ended' n k g g' a b less =
      let q : WasGoing players k h g' = fewer players b.players_then n k b.idle h g' less b.rounds in
      let same =
      rounds_same players a.players_then q.players_then k a.idle q.idle h g q.then a.legal (legal_from g' q.then q.starts b.legal) a.rounds q.rounds in
      elim (over ended a.idle k limit g a.why) [
        | inl done ↦ q.going (subst (λ (z : Bool × List Event). IsOver plan z.0 z.1) (λ i. (same.1 i, same.0 i)) done)
        | inr all ↦ absurd (omega (arith, all, less, b.most))
      ]

  one_reason : (x y : Ended) (idle : Bool) (n limit : ℕ) (g : List Event) → Why plan g x idle n limit → Why plan g y idle n limit → x ≡ y
  one_reason reasons.AllRetired reasons.AllRetired idle n limit g a b = refl
  one_reason reasons.AllRetired reasons.Quiet idle n limit g a b = absurd (b.0 a)
  one_reason reasons.AllRetired reasons.Limit idle n limit g a b = absurd (b.0 (inl a))
  one_reason reasons.AllRetired reasons.NoMemory idle n limit g a b = absurd b
  one_reason reasons.Quiet reasons.AllRetired idle n limit g a b = absurd (a.0 b)
  one_reason reasons.Quiet reasons.Quiet idle n limit g a b = refl
  one_reason reasons.Quiet reasons.Limit idle n limit g a b = absurd (b.0 (inr (a.1, a.2)))
  one_reason reasons.Quiet reasons.NoMemory idle n limit g a b = absurd b
  one_reason reasons.Limit reasons.AllRetired idle n limit g a b = absurd (a.0 (inl b))
  one_reason reasons.Limit reasons.Quiet idle n limit g a b = absurd (a.0 (inr (b.1, b.2)))
  one_reason reasons.Limit reasons.Limit idle n limit g a b = refl
  one_reason reasons.Limit reasons.NoMemory idle n limit g a b = absurd b
  one_reason reasons.NoMemory y idle n limit g a b = absurd a

pub one_run : OneRun
one_run plan limit players h ended ended' n n' g g' a b =
    let count : n ≡ n' = elim (cases_eq n n') [
      | inl same ↦ same
      | inr other ↦ absurd (elim (cases_lt n n') [
        | inl less ↦ no_later plan limit players h ended ended' n' n g g' a b less
        | inr more ↦ no_later plan limit players h ended' ended n n' g' g b a (omega (arith, more, other))
      ])
    ] in
    let same = rounds_same plan players a.players_then b.players_then n' a.idle b.idle h g g' a.legal b.legal
    (subst (λ k. Rounds plan players k a.idle h g a.players_then) count a.rounds) b.rounds in (
      one_reason plan ended ended' b.idle n' limit g'
          (subst (λ (z : List Event × Bool × ℕ). Why plan z.0 ended z.1 z.2 limit) (λ i. (same.0 i, same.1 i, count i)) a.why) b.why,
      count,
      same.0,
    )
