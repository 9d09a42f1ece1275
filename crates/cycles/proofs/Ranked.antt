-- What a ranking keeps while it is made.
use Rattle.std.proofs.Common.{◌≡◌, ℕ, zero, suc, ◌<◌, Bool, true, false, List, [], ◌∷◌, ◌++◌, length, get_or, replicate, ◌⊎◌, inl, inr, refl, sym, ◌∙◌, ap, subst, arith, get_or-set_other, get_or-set_same, set}
use Rattle.std.proofs.Math.ListN.{length-set}
use Rattle.std.proofs.lemmas.Bool.{cases_eq, cases_Bool, false≢true}
use Rattle.std.proofs.lemmas.List.{get_or_default, length-replicate}
use Rattle.std.specs.Prelude.{reverse}
use Rattle.std.specs.List.{Contains}
use Rattle.cycles.specs.Cycles.{LeadsBackTo, HasNoCycle, IsAmong}
use Rattle.cycles.specs.Peeling.{IsLeft, IsOut, IsSinkLeft, EachLeadsOn}
use Rattle.cycles.specs.Rankings.{IsRanked, IsRanking}
use Rattle.cycles.proofs.Turning.{LeadsBackTo-join}
use Rattle.cycles.proofs.Fewer.{in_range}
use Rattle.cycles.proofs.Peeled.{replicate_at}

-- an order of the jobs that are out
pub record RanksOut (n : ℕ) (pairs : List (ℕ × ℕ)) (left : List Bool) (order : List ℕ) : Type 0 where
  pub len : length left ≡ n
  pub ranked : IsRanked pairs order
  pub out : (job : ℕ) → Contains order job → IsOut left job
  pub within : (job : ℕ) → Contains order job → job < n
  pub every : (job : ℕ) → job < n → IsOut left job → Contains order job
  pub closed : (job next : ℕ) → Contains order job → IsAmong pairs job next → IsOut left next

-- before any is taken out
pub ranks_none : (n : ℕ) (pairs : List (ℕ × ℕ)) (left : List Bool) (order : List ℕ) → left ≡ replicate n true → order ≡ []
    → RanksOut n pairs left (reverse order)
ranks_none n pairs left order all none = subst (λ jobs. RanksOut n pairs left (reverse jobs)) (sym none) (record {
  len = ap (λ (xs : List Bool). length xs) all ∙ length-replicate n true;
  ranked = tt;
  out = λ job h. absurd (omega (arith, h.1));
  within = λ job h. absurd (omega (arith, h.1));
  every = λ job b o. absurd (false≢true (sym o ∙ (ap (λ xs. get_or xs job false) all ∙ replicate_at n job b)));
  closed = λ job next h r. absurd (omega (arith, h.1));
})

Contains-cases : (first : ℕ) (jobs : List ℕ) (job k : ℕ) → k < length (first ∷ jobs) → get_or (first ∷ jobs) k job ≡ job → (job ≡ first) ⊎ Contains jobs job
Contains-cases first jobs job zero l e = inl (sym e)
Contains-cases first jobs job (suc k) l e = inr (k, omega arith, e)

Contains-head : (first : ℕ) (jobs : List ℕ) → Contains (first ∷ jobs) first
Contains-head first jobs = (0, omega arith, refl)

Contains-tail : (first : ℕ) (jobs : List ℕ) (job : ℕ) → Contains jobs job → Contains (first ∷ jobs) job
Contains-tail first jobs job h = (suc h.0, (let l = h.1 in omega arith), h.2)

-- what is out stays out
still_out : (left : List Bool) (taken job : ℕ) → taken < length left → IsOut left job → IsOut (set left taken false) job
still_out left taken job l o = elim (cases_eq job taken) [
  | inl q ↦ ap (λ z. get_or (set left taken false) z false) q ∙ get_or-set_same left taken false false l
  | inr q ↦ get_or-set_other left taken job false false q ∙ o
]

pub takes_out : (n : ℕ) (pairs : List (ℕ × ℕ)) (left : List Bool) (order : List ℕ) (taken : ℕ)
    → taken < length left → IsSinkLeft pairs left taken → RanksOut n pairs left order →
    RanksOut n pairs (set left taken false) (taken ∷ order)
takes_out n pairs left order taken l s m = record {
  len = length-set left taken false ∙ m.len;
  ranked = ((λ later h r. let o = m.closed later taken h r in let a = s.is_left in cc), (λ h. let o = m.out taken h in let a = s.is_left in cc), m.ranked);
  out = λ job h. elim (Contains-cases taken order job h.0 h.1 h.2) [
    | inl q ↦ ap (λ z. get_or (set left taken false) z false) q ∙ get_or-set_same left taken false false l
    | inr u ↦ still_out left taken job l (m.out job u)
  ];
  within = λ job h. elim (Contains-cases taken order job h.0 h.1 h.2) [
    | inl q ↦ (let e = m.len in omega arith)
    | inr u ↦ m.within job u
  ];
  every = λ job b o. elim (cases_eq job taken) [
    | inl q ↦ subst (λ z. Contains (taken ∷ order) z) (sym q) (Contains-head taken order)
    | inr q ↦ Contains-tail taken order job (m.every job b (sym (get_or-set_other left taken job false false q) ∙ o))
  ];
  closed = λ job next h r. elim (Contains-cases taken order job h.0 h.1 h.2) [
    | inl q ↦ still_out left taken next l (s.sink next (subst (λ z. IsAmong pairs z next) q r))
    | inr u ↦ still_out left taken next l (m.closed job next u r)
  ];
}

-- a chain leads from one to the other
abbrev pub LeadsOnTo : (ℕ → ℕ → Type 0) → ℕ → ℕ → Type 0
LeadsOnTo R job end = (jobs : List ℕ) × LeadsBackTo R end job jobs

-- among the numbers below `n` with H, one that leads on to none of them
bottom : (R : ℕ → ℕ → Type 0) → HasNoCycle R → (H : ℕ → Type 0) (n j : ℕ) → j < n → H j →
    ((t : ℕ) → t < n → H t → ((w : ℕ) → w < n → H w → ¬ LeadsOnTo R t w) → ⊥) → ⊥
bottom R a H zero j l hj k = omega arith
bottom R a H (suc n) j l hj k =
    let below : (i : ℕ) → i < n → H i → ⊥ =
    λ i m hi. bottom R a H n i m hi (λ t lt ht free.
    let stays : (H n × LeadsOnTo R t n → ⊥) → ⊥ =
    λ no. k t (omega arith) ht (λ w lw hw r. elim (cases_eq w n) [
      | inl q ↦ no (subst (λ v. H v) q hw, subst (λ v. LeadsOnTo R t v) q r)
      | inr q ↦ free w (omega arith) hw r
    ]) in
    stays (λ yes. k n (omega arith) yes.0 (λ w lw hw r. elim (cases_eq w n) [
      | inl q ↦ let c : LeadsOnTo R n n = subst (λ v. LeadsOnTo R n v) q r in a (n ∷ c.0) c.1
      | inr q ↦ free w (omega arith) hw (yes.1.0 ++ n ∷ r.0, LeadsBackTo-join R w t yes.1.0 n r.0 yes.1.1 r.1)
    ]))) in
    elim (cases_eq j n) [
      | inl q ↦ k n (omega arith) (subst (λ v. H v) q hj) (λ w lw hw r. elim (cases_eq w n) [
        | inl q ↦ let c : LeadsOnTo R n n = subst (λ v. LeadsOnTo R n v) q r in a (n ∷ c.0) c.1
        | inr q ↦ below w (omega arith) hw
      ])
      | inr q ↦ below j (omega arith) hj
    ]

-- where none leads on in a circle, none can be left
pub ranks_every : (n : ℕ) (pairs : List (ℕ × ℕ)) (left : List Bool) (order : List ℕ)
    → HasNoCycle (IsAmong pairs) → EachLeadsOn pairs left → RanksOut n pairs left order → IsRanking n pairs order
ranks_every n pairs left order a each m = record {
  ranked = m.ranked;
  every = λ job b. elim (cases_Bool (get_or left job false)) [
    | inl t ↦ absurd (bottom (IsAmong pairs) a (λ v. IsLeft left v) n job b t
        (λ v l s free. each v s (λ w r. elim (cases_Bool (get_or left w false)) [
          | inl t ↦ absurd (free w (let e = m.len in let i = in_range left w t in omega arith) t ([], r))
          | inr o ↦ o
        ])))
    | inr o ↦ m.every job b o
  ];
  none_else = λ k d l. m.within (get_or order k d) (k, l, get_or_default order k (get_or order k d) d l);
}
