pub mod MachineCode
