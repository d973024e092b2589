-- The least cut of sizes in falling order is the cut that makes units certain.
use Rattle.std.proofs.Common.{◌≡◌, ℕ, zero, suc, ◌+◌, ◌-◌, ◌*◌, ◌<◌, ◌≤◌, true, false, cond, nat_lt, List, [], ◌∷◌, length, get_or, drop, arith, refl, ap, ◌∙◌, inl, inr, ◌⊎◌}
use Rattle.std.specs.Prelude.{sum}
use Rattle.std.proofs.{Math.Nat.{mul-le-mul_left}, lemmas.Bool.{cases_Bool, cases_eq, ltb-true, ltb-false, lt-ltb, le-ltb}}
use Rattle.std.proofs.{lemmas.List.Sums.{sum_by-cons, sum_by-drop_more, count_by-le-length}, lemmas.List.{get_or_past}}
use Rattle.smp_prob.specs.{Requested.{is_certain, positive_units, IsFalling, Stops, IsLeastCut}, Kept.Cuts.{border}}
use Rattle.smp_prob.proofs.Cuts.{at_least, below, IsCut, certain_is}

sum-cons : (x : ℕ) (xs : List ℕ) → sum (x ∷ xs) ≡ x + sum xs
sum-cons x xs = sum_by-cons (λ (y : ℕ). y) x xs

-- ---- the least cut is there

-- of the sizes in falling order, the first place at which the rule stops
abbrev pub least_cut : ℕ → List ℕ → ℕ
least_cut zero zs = 0
least_cut (suc n) [] = 0
least_cut (suc n) (z ∷ zs) = cond (nat_lt (suc n * z) (sum (z ∷ zs))) 0 (suc (least_cut n zs))

least_none : (n z : ℕ) (zs : List ℕ) → suc n * z < sum (z ∷ zs) → IsLeastCut (suc n) (z ∷ zs) 0
least_none n z zs l =
    let none : suc n - 0 ≡ suc n = omega arith in
    record { stops = inr (rw none l); least = λ d below. absurd (omega (arith, below)) }

stops_cons : (n c z : ℕ) (zs : List ℕ) → Stops n zs c → Stops (suc n) (z ∷ zs) (suc c)
stops_cons n c z zs stops =
    let less : suc n - suc c ≡ n - c = omega arith in
    elim stops [
      | inl e ↦ inl (ap suc e)
      | inr l ↦ inr (rw less l)
    ]

goes_on_cons : (n c z : ℕ) (zs : List ℕ) → sum (z ∷ zs) ≤ suc n * z → ((d : ℕ) → d < c → ¬ Stops n zs d) → (d : ℕ) → d < suc c → ¬ Stops (suc n) (z ∷ zs) d
goes_on_cons n c z zs full least zero below =
    let none : suc n - 0 ≡ suc n = omega arith in
    λ stops. elim stops [
      | inl e ↦ absurd (omega (arith, e))
      | inr l ↦ (let more : suc n * z < sum (z ∷ zs) = rw none at l in absurd (omega (arith, more, full)))
    ]
goes_on_cons n c z zs full least (suc d) below =
    let less : suc n - suc d ≡ n - d = omega arith in
    λ stops. least d (omega (arith, below)) (elim stops [
      | inl e ↦ inl (omega (arith, e))
      | inr l ↦ inr (rw less at l)
    ])

pub least_is : (n : ℕ) (zs : List ℕ) → n ≤ length zs → IsLeastCut n zs (least_cut n zs)
least_is zero zs long = record { stops = inl refl; least = λ d below. absurd (omega (arith, below)) }
least_is (suc n) [] long = absurd (omega (arith, long))
least_is (suc n) (z ∷ zs) long =
    let ih = least_is n zs (omega (arith, long)) in
    elim (cases_Bool (nat_lt (suc n * z) (sum (z ∷ zs)))) [
      | inl e ↦ rw e (least_none n z zs (ltb-true (suc n * z) (sum (z ∷ zs)) e))
      | inr e ↦ rw e record {
        stops = stops_cons n (least_cut n zs) z zs ih.stops;
        least = goes_on_cons n (least_cut n zs) z zs (ltb-false (suc n * z) (sum (z ∷ zs)) e) ih.least;
      }
    ]

-- ---- all of the first c sizes are full shares, and the next one isn't

-- a full share is taken out of the rest, and one draw
taken : (n cut size rest after : ℕ) → cut < n → rest ≡ size + after → rest ≤ (n - cut) * size → after ≤ (n - (cut + 1)) * size
taken n cut size rest after l rest_is full =
    let one_less : n - cut ≡ n - (cut + 1) + 1 = omega arith in
    let product : (n - cut) * size ≡ (n - (cut + 1)) * size + size = ap (λ x. x * size) one_less ∙ omega arith in
    omega (arith, product, rest_is, full)

module _ (n c : ℕ) (zs : List ℕ) (long : n ≤ length zs) (least : IsLeastCut n zs c) where
  cut_within : c ≤ n
  cut_within =
      elim (cases_Bool (nat_lt n c)) [
        | inl e ↦ absurd (least.least n (ltb-true n c e) (inl refl))
        | inr e ↦ ltb-false n c e
      ]

  cut_full : (d : ℕ) → c ≡ d + 1 → sum (drop c zs) ≤ (n - c) * get_or zs d 0
  cut_full d c_is =
      let next = sum_by-drop_more (λ (x : ℕ). x) zs d 0 (omega (arith, c_is, cut_within, long)) in
      elim (cases_Bool (nat_lt ((n - d) * get_or zs d 0) (sum (drop d zs)))) [
        | inl e ↦ absurd (least.least d (omega (arith, c_is)) (inr (ltb-true _ _ e)))
        | inr e ↦ rw c_is (taken n d (get_or zs d 0) (sum (drop d zs)) (sum (drop (d + 1) zs)) (omega (arith, c_is, cut_within)) next (ltb-false _ _ e))
      ]

  cut_light : (get_or zs c 0 ≡ 0) ⊎ ((n - c) * get_or zs c 0 < sum (drop c zs))
  cut_light =
      elim (cases_Bool (nat_lt c (length zs))) [
        | inr e ↦ inl (get_or_past zs c 0 (ltb-false c (length zs) e))
        | inl e ↦
            (let next = sum_by-drop_more (λ (x : ℕ). x) zs c 0 (ltb-true c (length zs) e) in
            elim (cases_eq (get_or zs c 0) 0) [
              | inl none ↦ inl none
              | inr some ↦ elim least.stops [
                | inl same ↦
                    (let nothing : (n - c) * get_or zs c 0 ≡ 0 * get_or zs c 0 = ap (λ x. x * get_or zs c 0) (omega (arith, same)) in
                    inr (omega (arith, nothing, next, some)))
                | inr light ↦ inr light
              ]
            ])
      ]

-- ---- counting on a list in falling order

falling_tail : (z : ℕ) (zs : List ℕ) → IsFalling (z ∷ zs) → IsFalling zs
falling_tail z zs h = λ i j l. h (suc i) (suc j) (omega arith)

all_below : (b : ℕ) (zs : List ℕ) → ((k : ℕ) → get_or zs k 0 < b) → (at_least zs b ≡ 0) × (below zs b ≡ sum zs)
all_below b [] h = (refl, refl)
all_below b (z ∷ zs) h =
    let ih = all_below b zs (λ k. h (suc k)) in
    let e : nat_lt z b ≡ true = lt-ltb z b (h 0) in
    rw (sum_by-cons (λ (x : ℕ). cond (nat_lt x b) 0 1) z zs, sum_by-cons (λ (x : ℕ). cond (nat_lt x b) x 0) z zs, e) (omega (arith, ih.0), omega (arith, ih.1, sum-cons z zs))

counted : (b c : ℕ) (zs : List ℕ) → 1 ≤ b → ((k : ℕ) → k < c → b ≤ get_or zs k 0) → ((k : ℕ) → c ≤ k → get_or zs k 0 < b) → (at_least zs b ≡ c) × (below zs b ≡ sum (drop c zs))
counted b zero zs p front back = all_below b zs (λ k. back k (omega arith))
counted b (suc c) [] p front back = absurd (omega (arith, front 0 (omega arith)))
counted b (suc c) (z ∷ zs) p front back =
    let ih = counted b c zs p (λ k l. front (suc k) (omega arith)) (λ k l. back (suc k) (omega arith)) in
    let e : nat_lt z b ≡ false = le-ltb z b (front 0 (omega arith)) in
    rw (sum_by-cons (λ (x : ℕ). cond (nat_lt x b) 0 1) z zs, sum_by-cons (λ (x : ℕ). cond (nat_lt x b) x 0) z zs, e) (omega (arith, ih.0), omega (arith, ih.1))

-- ---- the border

all_zero : (zs : List ℕ) → IsFalling zs → get_or zs 0 0 ≡ 0 → positive_units zs ≡ 0
all_zero [] h e = refl
all_zero (z ∷ zs) h e =
    let next : get_or zs 0 0 ≡ 0 = omega (arith, h 0 1 (omega arith), e) in
    let z_is : z ≡ 0 = e in
    rw (z_is, sum_by-cons (λ (x : ℕ). cond (nat_lt 0 x) 1 0) 0 zs) (omega (arith, all_zero zs (falling_tail z zs h) next))

positive_front : (zs : List ℕ) (d : ℕ) → IsFalling zs → d < positive_units zs → 1 ≤ get_or zs d 0
positive_front [] d h l = absurd (omega (arith, l))
positive_front (z ∷ zs) zero h l =
    elim (cases_eq z 0) [
      | inl e ↦ absurd (omega (arith, l, all_zero (z ∷ zs) h e))
      | inr n ↦ omega (arith, n)
    ]
positive_front (z ∷ zs) (suc d) h l =
    let one : positive_units (z ∷ zs) ≤ 1 + positive_units zs = elim (cases_Bool (nat_lt 0 z)) [
      | inl e ↦ rw (sum_by-cons (λ (x : ℕ). cond (nat_lt 0 x) 1 0) z zs, e) (omega arith)
      | inr e ↦ rw (sum_by-cons (λ (x : ℕ). cond (nat_lt 0 x) 1 0) z zs, e) (omega arith)
    ] in
    positive_front zs d (falling_tail z zs h) (omega (arith, l, one))

border_cuts : (n c : ℕ) (zs : List ℕ) → IsFalling zs → c ≤ positive_units zs → ((d : ℕ) → c ≡ d + 1 → sum (drop c zs) ≤ (n - c) * get_or zs d 0) → (get_or zs c 0 ≡ 0) ⊎ ((n - c) * get_or zs c 0 < sum (drop c zs)) → (1 ≤ border c zs) × (get_or zs c 0 < border c zs) × ((k : ℕ) → k < c → border c zs ≤ get_or zs k 0)
border_cuts n zero zs falling enough full light = (omega arith, omega arith, λ k l. absurd (omega (arith, l)))
border_cuts n (suc d) zs falling enough full light =
    let some : 1 ≤ get_or zs d 0 = positive_front zs d falling (omega (arith, enough)) in
    let share : sum (drop (suc d) zs) ≤ (n - suc d) * get_or zs d 0 = full d (omega arith) in (
      some,
      elim (cases_Bool (nat_lt (get_or zs (suc d) 0) (get_or zs d 0))) [
        | inl e ↦ ltb-true (get_or zs (suc d) 0) (get_or zs d 0) e
        | inr e ↦
            (let l : get_or zs d 0 ≤ get_or zs (suc d) 0 = ltb-false (get_or zs (suc d) 0) (get_or zs d 0) e in
            let wide : (n - suc d) * get_or zs d 0 ≤ (n - suc d) * get_or zs (suc d) 0 = mul-le-mul_left (n - suc d) l in
            elim light [
              | inl none ↦ absurd (omega (arith, none, l, some))
              | inr next ↦ absurd (omega (arith, next, share, wide))
            ])
      ],
      λ k l. falling k d (omega (arith, l)),
    )

-- a least cut of sizes in falling order makes a border: so no tie stands across it
module _ (n c : ℕ) (zs : List ℕ) (falling : IsFalling zs) (enough : n ≤ positive_units zs) (least : IsLeastCut n zs c) where
  long : n ≤ length zs
  long = omega (arith, enough, count_by-le-length (nat_lt 0) zs)

  within : c ≤ n
  within = cut_within n c zs long least

  full : (d : ℕ) → c ≡ d + 1 → sum (drop c zs) ≤ (n - c) * get_or zs d 0
  full = cut_full n c zs long least

  light : (get_or zs c 0 ≡ 0) ⊎ ((n - c) * get_or zs c 0 < sum (drop c zs))
  light = cut_light n c zs long least

  cuts : (1 ≤ border c zs) × (get_or zs c 0 < border c zs) × ((k : ℕ) → k < c → border c zs ≤ get_or zs k 0)
  cuts = border_cuts n c zs falling (omega (arith, enough, within)) full light

  pub sums : (at_least zs (border c zs) ≡ c) × (below zs (border c zs) ≡ sum (drop c zs))
  sums = counted (border c zs) c zs cuts.0 cuts.2 (λ k l. omega (arith, falling c k l, cuts.1))

  full_border : (c : ℕ) → ((d : ℕ) → c ≡ d + 1 → sum (drop c zs) ≤ (n - c) * get_or zs d 0) → 1 ≤ c → sum (drop c zs) ≤ (n - c) * border c zs
  full_border zero full p = absurd (omega (arith, p))
  full_border (suc d) full p = full d (omega arith)

  pub is_cut : IsCut n zs (border c zs) (get_or zs c 0)
  is_cut = record {
    within = rw sums.0 within;
    full = rw (sums.0, sums.1) (λ p. full_border c full p);
    under = λ k h. elim (cases_Bool (nat_lt k c)) [
      | inl e ↦ absurd (omega (arith, cuts.2 k (ltb-true k c e), h))
      | inr e ↦ falling c k (ltb-false k c e)
    ];
    light = rw (sums.0, sums.1) light;
    positive = cuts.0;
  }

  -- of the sizes in falling order the first c are certain, and no other
  pub first_certain : (k : ℕ) → is_certain n zs (get_or zs k 0) ≡ nat_lt k c
  first_certain k =
      elim (cases_Bool (nat_lt k c)) [
        | inl e ↦ rw (e, certain_is n zs (border c zs) (get_or zs c 0) is_cut k, le-ltb (get_or zs k 0) (border c zs) (cuts.2 k (ltb-true k c e))) refl
        | inr e ↦ rw (e, certain_is n zs (border c zs) (get_or zs c 0) is_cut k, lt-ltb (get_or zs k 0) (border c zs) (omega (arith, cuts.1, falling c k (ltb-false k c e)))) refl
      ]
