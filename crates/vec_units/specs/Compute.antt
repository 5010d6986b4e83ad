-- A vector operation on lanes, by the crate that has it.
use Rattle.std.specs.Prelude.{ℕ, Bool, true, false, List}
use Rattle.row_table.specs.declared.operations.Op.{Op}
use Rattle.row_table.specs.declared.operations.Op.TheVariants.{Core, Gpr, Bit, String, Lane, Cross, Width, Mac, Mask, Vector, Gather, Xsave}
use Rattle.num_lanes.specs.Lane.{lane_of}
use Rattle.lane_kernels.specs.LaneOps.{op_lane}
use Rattle.cross_kernels.specs.CrossOps.{op_lane as cross_lane}
use Rattle.width_kernels.specs.WidthOps.{op_lane as width_lane}
use Rattle.mac_kernels.specs.MacOps.{op_lane as mac_lane}

-- the operations on vectors that there are
unfoldable pub is_vector : Op → Bool
is_vector (Lane op) = true
is_vector (Vector op) = true
is_vector (Core op) = false
is_vector (Gpr op) = false
is_vector (Bit op) = false
is_vector (String op) = false
is_vector (Cross op) = true
is_vector (Width op) = true
is_vector (Mac op) = true
is_vector (Mask op) = false
is_vector (Gather op) = false
is_vector (Xsave op) = false

-- lane i of an operation on lanes of w bytes; the operations whose result is a mask of bits take the second operand's lanes as they
-- are
unfoldable pub lane_by : Op → (w imm : ℕ) → (dest first second : List ℕ) → (mask i : ℕ) → ℕ
lane_by (Lane op) w imm dest first second mask i = op_lane (Lane op) w imm dest first second mask i
lane_by (Vector op) w imm dest first second mask i = lane_of w second i
lane_by (Core op) w imm dest first second mask i = 0
lane_by (Gpr op) w imm dest first second mask i = 0
lane_by (Bit op) w imm dest first second mask i = 0
lane_by (String op) w imm dest first second mask i = 0
lane_by (Cross op) w imm dest first second mask i = cross_lane (Cross op) w imm dest first second mask i
lane_by (Width op) w imm dest first second mask i = width_lane (Width op) w imm dest first second mask i
lane_by (Mac op) w imm dest first second mask i = mac_lane (Mac op) w imm dest first second mask i
lane_by (Mask op) w imm dest first second mask i = 0
lane_by (Gather op) w imm dest first second mask i = 0
lane_by (Xsave op) w imm dest first second mask i = 0
