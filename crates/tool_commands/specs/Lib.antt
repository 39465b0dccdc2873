pub mod ToolExits
