-- What the code keeps on the way. No public clause cites it.
use Rattle.std.specs.Prelude.{◌≡◌, true, false}
use Rattle.csv.specs.declared.writer.Writer.{Writer}
use Rattle.csv.specs.Writing.{default_writer, with_flexible, writer_setup, fields_written, has_written}

-- a writer between two rows
pub record IsBetween {W : Type 0} (w : Writer W) : Type 0 where
  pub setup : writer_setup w ≡ with_flexible default_writer true
  pub fields : fields_written w ≡ 0
  pub wrote : has_written w ≡ false
