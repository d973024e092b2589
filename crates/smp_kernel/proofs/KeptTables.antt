-- Tables that are kept from one search to the next.
use Rattle.std.proofs.Common.{◌≡◌, ℕ, zero, suc, ◌+◌, ◌-◌, ◌<◌, ◌≤◌, List, [], ◌∷◌, ◌++◌, ℤ, arith, sym, refl, ap, ap₂, ◌∙◌, subst, inl, inr, length, length-take, length-append, get_or, get_or-take, take}
use Rattle.std.proofs.{lemmas.Bool.{cases_lt}, Math.Seq.{get_or-append_seam}}
use Rattle.std.proofs.lemmas.List.{get_or-map, get_or_append_left, length-map, take_all, take_more, take-append-le, take-take}
use Rattle.smp_kernel.proofs.SearchLaw.{enter_more}
use Rattle.smp_kernel.specs.{RowReduction.{cut}, Answers.{Enters}, Searches.{AllEnter}, Kept.Searched.{AreTables, IsSearching, last_of}}

-- columns that enter do so at the front of any list
module _ (q : ℕ) (a b : List (List ℤ)) (n : ℕ) (l : n ≤ length b) (same : take n a ≡ take n b) where
  same_before : (j : ℕ) → j < n → take j a ≡ take j b
  same_before j m = sym (take-take j n a (omega arith)) ∙ ap (take j) same ∙ take-take j n b (omega arith)

  same_at : (j : ℕ) → j < n → get_or a j [] ≡ get_or b j []
  same_at j m = sym (get_or-take n a j [] m) ∙ ap (λ cs. get_or cs j []) same ∙ get_or-take n b j [] m

  pub same_enter : (m : ℕ) → n ≤ m → AllEnter q a m → AllEnter q b n
  same_enter m few all = record {
    within = l;
    each = λ j k. subst (λ cs. Enters q cs (get_or b j [])) (same_before j k) (subst (Enters q (take j a)) (same_at j k) (all.each j (omega (arith, k, few))));
  }

module _ {q : ℕ} {tables : List (List (List ℤ))} (T : AreTables q tables) where
  -- the last column of each table
  last_column : (k : ℕ) → k < length tables → get_or (get_or tables k []) (length (get_or tables k []) - 1) [] ≡ get_or (last_of tables) k []
  last_column k l =
      let n : length (take (suc k) (last_of tables)) - 1 ≡ k = omega (arith, length-take (suc k) (last_of tables), T.one_each) in
      ap (λ cs. get_or cs (length cs - 1) []) (T.each k l) ∙ ap (λ i. get_or (take (suc k) (last_of tables)) i []) n ∙ get_or-take (suc k) (last_of tables) k [] (omega arith)

  pub one_more : (columns : List (List ℤ)) (k : ℕ) → k < length tables → k < length columns → take k (last_of tables) ≡ take k (cut q columns) →
      get_or (get_or tables k []) (length (get_or tables k []) - 1) [] ≡ take q (get_or columns k []) → take (k + 1) (last_of tables) ≡ take (k + 1) (cut q columns)
  one_more columns k l m so_far is =
      take_more (last_of tables) k [] (omega (arith, l, T.one_each))
      ∙ ap₂ (λ cs c. cs ++ c ∷ []) so_far (sym (last_column k l) ∙ is ∙ sym (get_or-map (take q) columns k [] [] m))
      ∙ sym (take_more (cut q columns) k [] (omega (arith, m, length-map columns (take q))))

  -- the columns of the first n tables
  pub last_taken : (n : ℕ) → n ≤ length tables → last_of (take n tables) ≡ take n (last_of tables)
  last_taken zero l = refl
  last_taken (suc m) l =
      let n : length (take (suc m) tables) - 1 ≡ m = omega (arith, length-take (suc m) tables, l) in
      ap (λ i. get_or (take (suc m) tables) i []) n ∙ get_or-take (suc m) tables m [] (omega arith) ∙ T.each m (omega (arith, l))

  module _ (n : ℕ) (l : n ≤ length tables) where
    count : length (take n tables) ≡ n
    count = omega (arith, length-take n tables, l)

    count_columns : length (take n (last_of tables)) ≡ n
    count_columns = omega (arith, length-take n (last_of tables), l, T.one_each)

    pub taken : AreTables q (take n tables)
    taken = record {
      one_each = ap length (last_taken n l) ∙ count_columns ∙ sym count;
      each = λ k m.
          (let h : k < n = omega (arith, m, count) in
          get_or-take n tables k [] h ∙ T.each k (omega (arith, h, l)) ∙ sym (take-take (suc k) n (last_of tables) (omega (arith, h))) ∙ ap (take (suc k)) (sym (last_taken n l)));
      enter = subst (λ cs. AllEnter q cs (length (take n tables))) (sym (last_taken n l)) (subst (AllEnter q (take n (last_of tables))) (sym count)
          (same_enter q (last_of tables) (take n (last_of tables)) n (omega (arith, count_columns)) (sym (take-take n n (last_of tables) (omega arith))) (length tables) l T.enter));
    }

    pub taken_searching : (columns : List (List ℤ)) → n ≤ length columns → take n (last_of tables) ≡ take n (cut q columns) →
        IsSearching q columns (length (last_of (take n tables))) (last_of (take n tables))
    taken_searching columns m same =
        let many : length (last_of (take n tables)) ≡ n = ap length (last_taken n l) ∙ count_columns in
        subst (λ k. IsSearching q columns k (last_of (take n tables))) (sym many) (record {
          table_is = last_taken n l ∙ same;
          enter = same_enter q (last_of tables) (cut q columns) n (omega (arith, m, length-map columns (take q))) same (length tables) l T.enter;
        })

  -- one table more
  module _ (column : List ℤ) (enter : Enters q (last_of tables) column) (table : List (List ℤ)) (is : table ≡ last_of tables ++ column ∷ []) where
    many : length (tables ++ table ∷ []) ≡ length tables + 1
    many = length-append tables (table ∷ [])

    many_columns : length (last_of tables ++ column ∷ []) ≡ length tables + 1
    many_columns = omega (arith, length-append (last_of tables) (column ∷ []), T.one_each)

    pub last_pushed : last_of (tables ++ table ∷ []) ≡ last_of tables ++ column ∷ []
    last_pushed =
        let n : length (tables ++ table ∷ []) - 1 ≡ length tables = omega (arith, many) in
        ap (λ i. get_or (tables ++ table ∷ []) i []) n ∙ get_or-append_seam tables table [] [] ∙ is

    each_pushed : (k : ℕ) → k < length (tables ++ table ∷ []) → get_or (tables ++ table ∷ []) k [] ≡ take (suc k) (last_of tables ++ column ∷ [])
    each_pushed k l = elim (cases_lt k (length tables)) [
      | inl b ↦ get_or_append_left tables (table ∷ []) [] k b ∙ T.each k b ∙ sym (take-append-le (suc k) (last_of tables) (column ∷ []) (omega (arith, b, T.one_each)))
      | inr m ↦
          (let e : k ≡ length tables = omega (arith, l, m, many) in
          ap (λ i. get_or (tables ++ table ∷ []) i []) e ∙ get_or-append_seam tables table [] [] ∙ is ∙ sym (take_all (suc k) (last_of tables ++ column ∷ []) (omega (arith, many_columns, e))))
    ]

    enter_pushed : AllEnter q (last_of tables ++ column ∷ []) (length tables + 1)
    enter_pushed =
        let front : take (length tables) (last_of tables ++ column ∷ []) ≡ last_of tables =
        take-append-le (length tables) (last_of tables) (column ∷ []) (omega (arith, T.one_each)) ∙ take_all (length tables) (last_of tables) (omega (arith, T.one_each)) in
        let at : get_or (last_of tables ++ column ∷ []) (length tables) [] ≡ column =
        ap (λ i. get_or (last_of tables ++ column ∷ []) i []) (sym T.one_each) ∙ get_or-append_seam (last_of tables) column [] [] in
        let all : take (length tables) (last_of tables) ≡ last_of tables = take_all (length tables) (last_of tables) (omega (arith, T.one_each)) in
        enter_more q (last_of tables ++ column ∷ []) (length tables) (omega (arith, many_columns))
        (same_enter q (last_of tables) (last_of tables ++ column ∷ []) (length tables) (omega (arith, many_columns)) (all ∙ sym front) (length tables) (omega arith) T.enter)
        (subst (λ cs. Enters q cs (get_or (last_of tables ++ column ∷ []) (length tables) [])) (sym front) (subst (Enters q (last_of tables)) (sym at) enter))

    pub pushed : AreTables q (tables ++ table ∷ [])
    pushed = record {
      one_each = ap length last_pushed ∙ many_columns ∙ sym many;
      each = λ k l. each_pushed k l ∙ ap (take (suc k)) (sym last_pushed);
      enter = subst (λ cs. AllEnter q cs (length (tables ++ table ∷ []))) (sym last_pushed) (subst (AllEnter q (last_of tables ++ column ∷ [])) (sym many) enter_pushed);
    }
