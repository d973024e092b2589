-- The lines of a log, and how many there are.
use Rattle.std.proofs.{Common.{◌≡◌, ℕ, suc, ◌+◌, List, ◌++◌, length, map, ap, ◌∙◌, arith, length-append}, lemmas.List.{length-map}}
use Rattle.smp_split.specs.{Trees.{Tree, Lawful}, Paths.{Entry}}
use Rattle.smp_log.specs.{Lines.{whole_lines}, Heads.{IsHead}, Logs.{log_text}, Reading.{step_line, end_line}}
use Rattle.smp_log.proofs.{Described.{whole_text}, Heads.{head_lines, head_lines_are}, Logs.{lines_after}, Kept.{log_lines, log_lines_are}}

module _ {State : Type 0} (tree : Tree State) (belongs : State → Type 0) (lawful : Lawful tree belongs) (from : State) (member : belongs from) (head : List ℕ) (h : IsHead head) (path : List Entry) where
  pub lines_are : whole_lines (log_text head path) ≡ head_lines h ++ lines_after end_line 0 path
  lines_are =
      ap whole_lines (log_lines tree belongs lawful from member head (head_lines h) h.text (head_lines_are h) path)
      ∙ whole_text (head_lines h ++ lines_after end_line 0 path) (log_lines_are tree belongs lawful from member head (head_lines h) h.text (head_lines_are h) path)

  -- four more than steps
  pub log_count : length (whole_lines (log_text head path)) ≡ length path + 4
  log_count =
      let steps : length (lines_after end_line 0 path) ≡ length path + 1 = length-append (map step_line path) _ ∙ ap (λ n. n + 1) (length-map path step_line) in
      ap length lines_are ∙ ap (λ n. suc (suc (suc n))) steps ∙ omega arith
